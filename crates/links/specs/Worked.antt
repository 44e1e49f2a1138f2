-- Two graphs of needs, worked through: with a library needed twice, and with a ring.
use Rattle.std.specs.Prelude.{◌≡◌, false, List, [], ◌∷◌, map, codes, None, Some}
use Prim.Native.String.{String}
use Rattle.library.specs.Library.{Library}
use Rattle.links.specs.Closure.{closure, init_order}

-- a library of which only the needs matter
abbrev pub needing : String → List String → Library
needing x ns = record { name = codes x; inward = false; needs = map codes ns; defs = []; inits = []; finis = []; cells = [] }

-- prog needs gui and net, gui needs font and log, net needs log
abbrev pub tree : List Library
tree = needing "prog" ("gui" ∷ "net" ∷ []) ∷ needing "gui" ("font" ∷ "log" ∷ []) ∷ needing "net" ("log" ∷ []) ∷ needing "log" [] ∷ needing "font" [] ∷ []

-- p needs a, a needs b, b needs a
abbrev pub ring : List Library
ring = needing "p" ("a" ∷ []) ∷ needing "a" ("b" ∷ []) ∷ needing "b" ("a" ∷ []) ∷ []

-- closures breadth first, orders of initialisation depth first; a library that isn't in the text
pub record WorkedNeeds : Type 0 where
  pub tree_closure : closure tree (codes "prog") ≡ Some (map codes ("prog" ∷ "gui" ∷ "net" ∷ "font" ∷ "log" ∷ []))
  pub tree_order : init_order tree (codes "prog") ≡ map codes ("font" ∷ "log" ∷ "gui" ∷ "net" ∷ "prog" ∷ [])
  pub ring_closure : closure ring (codes "p") ≡ Some (map codes ("p" ∷ "a" ∷ "b" ∷ []))
  pub ring_order : init_order ring (codes "p") ≡ map codes ("b" ∷ "a" ∷ "p" ∷ [])
  pub not_there : closure ring (codes "q") ≡ None
