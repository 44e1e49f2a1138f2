-- Notes of what was poked where.
use Rattle.std.specs.Prelude.{◌≡◌, Bool, false, ◌⊎◌, List, [], ◌∷◌, ◌++◌, vec_items, ℕ, ◌+◌, ◌≤◌}
use Rattle.processor.specs.Cpu.{Processor}
use Rattle.processor.specs.declared.Cpu.{Ghosts as CpuGhosts}
use Rattle.noting.specs.declared.notes.Notes.{Notes}
use Rattle.noting.specs.declared.notes.Poke.{Poke}

-- the pokes noted, oldest first, and whether every poke was
pub record Kept : Type 0 where
  pub pokes : List Poke
  pub complete : Bool

-- what the notes hold
abbrev pub kept : Notes → Kept
kept n = record { pokes = vec_items n.pokes; complete = n.complete }

-- one poke more: it is noted, or the notes say that they are no longer complete
abbrev pub Noted : Kept → Poke → Kept → Type 0
Noted k p l = (l ≡ record { pokes = k.pokes ++ (p ∷ []); complete = k.complete }) ⊎ (l ≡ record { pokes = k.pokes; complete = false })

-- a call of a processor that makes no step: it became what f makes of it, and so much room was used at most
pub record Became {P : Type 0} (p : CpuGhosts P) (f : Processor → Processor) (used : ℕ) (old new : P) : Type 0 where
  pub counts : p.made new ≡ p.made old
  pub roomy : p.room old ≤ p.room new + used
  pub becomes : p.state new ≡ f (p.state old)
