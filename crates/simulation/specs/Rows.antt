-- Pending calls as the loader keeps them, with addresses: the newest first.
use Rattle.std.specs.List.{list_any}
use Rattle.std.specs.Prelude.{ℕ, Bool, true, false, List, [], ◌∷◌}
use Rattle.links.specs.Links.{Place}
use Rattle.meaning.specs.State.{Sequel, gives, drops, ends, stops, Frame, back, pending}
use Rattle.simulation.specs.Layout.{Layout, addr, addr_place}

-- what follows pending calls: a word goes to a register and the code goes on at an address; modules go, the register gets 1, and the code goes on; all finis are called; the program has ended with a number
pub data Resume : Type 0 where
  resume : ℕ → ℕ → ℕ → Resume
  discard : List ℕ → ℕ → ℕ → Resume
  finish : ℕ → Resume
  stop : ℕ → Resume

-- calls that are still to be made, and what follows them
pub record Row : Type 0 where
  pub calls : List Place
  pub after : Resume

-- both together
abbrev pub row : List Place → Resume → Row
row ps f = record { calls = ps; after = f }

-- a sequel of the meaning, with addresses
abbrev pub resumes : Layout → Sequel → Resume
resumes k (gives r v p) = resume r (addr k v) (addr_place k p)
resumes k (drops js r p) = discard js r (addr_place k p)
resumes k (ends n) = finish n
resumes k (stops n) = stop n

-- the pending calls among frames
abbrev pub pendings : Layout → List Frame → List Row
pendings k [] = []
pendings k (back p ∷ fs) = pendings k fs
pendings k (pending ps f ∷ fs) = row ps (resumes k f) ∷ pendings k fs

-- whether modules go when the calls are through
abbrev pub is_discard : Resume → Bool
is_discard (resume r w a) = false
is_discard (discard js r a) = true
is_discard (finish n) = false
is_discard (stop n) = false

-- whether finis of a close are being called
abbrev pub closing_rows : List Row → Bool
closing_rows rs = list_any (λ r. is_discard r.after) rs
