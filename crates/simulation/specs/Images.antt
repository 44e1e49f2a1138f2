-- The words of a load: each new module's image, laid at its base.
use Rattle.std.specs.Option.{option_map}
use Rattle.std.specs.Prelude.{ℕ, List, [], ◌∷◌, Option, slice_get}
use Rattle.base.specs.Choices.{opt}
use Rattle.library.specs.Library.{Cell, Library, cells_before}
use Rattle.links.specs.Links.{Module, Links}
use Rattle.links.specs.Load.{ref_target}
use Rattle.processor.specs.Laid.{laid}
use Rattle.image.specs.Words.{first_words}
use Rattle.simulation.specs.Layout.{Layout, base_of, addr_place}

-- the address of the definition that a cell of a new module is settled to: refs are, nothing else is yet
abbrev pub settled_at : Layout → Links → ℕ → Cell → Option ℕ
settled_at k ks me c = option_map (addr_place k) (ref_target ks me c)

-- the words of the module i as it begins
abbrev pub image : List Library → Layout → Links → ℕ → Module → List ℕ
image ls k ks i x = first_words (settled_at k ks i) (base_of k i) (cells_before ls x.lib.name) 0 x.lib.cells

-- the words of each of these modules as it begins
abbrev pub images : List Library → Layout → Links → List ℕ → List (List ℕ)
images ls k ks [] = []
images ls k ks (i ∷ is) = opt (slice_get ks.modules i) [] (image ls k ks i) ∷ images ls k ks is

-- images laid down one after the other, each at its start
abbrev pub laid_all : List ℕ → List ℕ → List (List ℕ) → List ℕ
laid_all ws [] ims = ws
laid_all ws (a ∷ bs) [] = ws
laid_all ws (a ∷ bs) (im ∷ ims) = laid_all (laid ws a im) bs ims
