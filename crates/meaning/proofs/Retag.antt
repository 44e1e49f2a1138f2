-- A state but for the words taken: no step but open's looks at that.
use Rattle.std.specs.Prelude.{None, Option, Some, cond}
use Rattle.std.proofs.Common.{◌≡◌, ℕ, ◌+◌, Bool, true, false, eqb, ◌⊎◌, List, [], ◌∷◌, refl, inl, inr}
use Rattle.base.specs.Choices.{opt, on_some}
use Rattle.base.specs.Names.{Name}
use Rattle.library.specs.Library.{Instruction, Set, Get, Sto, Own, Add, Sub, Mul, Less, Same, Move, Jump, If0, Call, Callr, Ret, Push, Pop, Out, In, Open, Find, Close, End, Library}
use Rattle.links.specs.Links.{Links, Room}
use Rattle.links.specs.Scope.{resolve}
use Rattle.links.specs.Close.{close_group}
use Rattle.meaning.specs.State.{Value, num, place, Held, val, link, label, code, Sequel, gives, drops, ends, stops, Frame, back, pending, State, Next, goes, ended, lost, wrong, with_links}
use Rattle.meaning.specs.Calls.{follows, returns}
use Rattle.meaning.specs.Values.{on_num, on_val, reg, next, sets, plus, minus, below, equal, times}
use Rattle.meaning.specs.Steps.{two, value_at, put_cell, write_at, to_cell, calls_place, calls_through, on_label, may_close, closes_it, own, pops, does}
use Rattle.meaning.specs.Shown.{shown, fate}

abbrev pub used_links : Links → ℕ → Links
used_links k u = record { modules = k.modules; groups = k.groups; order = k.order; used = u }

abbrev pub with_used : State → ℕ → State
with_used s u = record { links = used_links s.links u; cells = s.cells; core = s.core; ins = s.ins; outs = s.outs }

abbrev pub retag : ℕ → Next → Next
retag u (goes s) = goes (with_used s u)
retag u (ended n s) = ended n (with_used s u)
retag u (lost s) = lost (with_used s u)
retag u (wrong s) = wrong (with_used s u)

pub shown_retag : (u : ℕ) (n : Next) → shown (retag u n) ≡ shown n
shown_retag u (goes s) = refl
shown_retag u (ended n s) = refl
shown_retag u (lost s) = refl
shown_retag u (wrong s) = refl

pub fate_retag : (u : ℕ) (n : Next) → fate (retag u n) ≡ fate n
fate_retag u (goes s) = refl
fate_retag u (ended n s) = refl
fate_retag u (lost s) = refl
fate_retag u (wrong s) = refl

module _ (s : State) (u : ℕ) where
  on_val_tag : (o : Option Value) (f g : Value → Next) → ((v : Value) → g v ≡ retag u (f v)) → on_val (with_used s u) o g ≡ retag u (on_val s o f)
  on_val_tag None f g h = refl
  on_val_tag (Some v) f g h = h v

  on_num_tag : (o : Option Value) (f g : ℕ → Next) → ((n : ℕ) → g n ≡ retag u (f n)) → on_num (with_used s u) o g ≡ retag u (on_num s o f)
  on_num_tag None f g h = refl
  on_num_tag (Some (num n)) f g h = h n
  on_num_tag (Some (place i j)) f g h = refl

  pub on_label_tag : (o : Option Held) (f g : Name → Next) → ((x : Name) → g x ≡ retag u (f x)) → on_label (with_used s u) o g ≡ retag u (on_label s o f)
  on_label_tag None f g h = refl
  on_label_tag (Some (val v)) f g h = refl
  on_label_tag (Some (link y o)) f g h = refl
  on_label_tag (Some (label x)) f g h = h x
  on_label_tag (Some (code o)) f g h = refl

  pub opt_tag : {A : Type 0} (o : Option A) (c d : Next) (f g : A → Next) → d ≡ retag u c → ((x : A) → g x ≡ retag u (f x)) → opt o d g ≡ retag u (opt o c f)
  opt_tag None c d f g e h = e
  opt_tag (Some x) c d f g e h = h x

  pick_tag : (b : Bool) (c d e f : Next) → d ≡ retag u c → f ≡ retag u e → cond b d f ≡ retag u (cond b c e)
  pick_tag true c d e f p q = p
  pick_tag false c d e f p q = q

  two_tag : (r a b : ℕ) (f : Value → Value → Option Value) → two (with_used s u) r a b f ≡ retag u (two s r a b f)
  two_tag r a b f = on_val_tag (reg s a) _ _ (λ x. on_val_tag (reg s b) _ _ (λ y. on_val_tag (f x y) _ _ (λ v. refl)))

  pub follows_tag : (f : Sequel) (fs : List Frame) → follows (with_used s u) f fs ≡ retag u (follows s f fs)
  follows_tag (gives r v p) fs = refl
  follows_tag (drops js r p) fs = refl
  follows_tag (ends n) fs = refl
  follows_tag (stops n) fs = refl

  pub returns_tag : (fs : List Frame) → returns (with_used s u) fs ≡ retag u (returns s fs)
  returns_tag [] = refl
  returns_tag (back p ∷ fs) = refl
  returns_tag (pending [] f ∷ fs) = follows_tag f fs
  returns_tag (pending (p ∷ ps) f ∷ fs) = refl

  calls_place_tag : (v : Value) → calls_place (with_used s u) v ≡ retag u (calls_place s v)
  calls_place_tag (num n) = refl
  calls_place_tag (place i k) = refl

  calls_tag : (j : ℕ) (o : Option Held) → calls_through (with_used s u) j o ≡ retag u (calls_through s j o)
  calls_tag j None = refl
  calls_tag j (Some (val v)) = refl
  calls_tag j (Some (link y None)) = opt_tag (resolve s.links s.core.here.host y) _ _ _ _ refl (λ p. refl)
  calls_tag j (Some (link y (Some v))) = calls_place_tag v
  calls_tag j (Some (label x)) = refl
  calls_tag j (Some (code o)) = refl

  pops_tag : (r : ℕ) (vs : List Value) → pops (with_used s u) r vs ≡ retag u (pops s r vs)
  pops_tag r [] = refl
  pops_tag r (v ∷ vs) = refl

  sto_tag : (p v : Value) (n : ℕ) → opt (write_at (with_used s u) p n v) (wrong (with_used s u)) (λ t. goes (next t)) ≡ retag u (opt (write_at s p n v) (wrong s) (λ t. goes (next t)))
  sto_tag (num a) v n = refl
  sto_tag (place i j) v n = go (value_at s (place i j) n)
    where
      go : (o : Option Value) → opt (on_some o (λ old. Some (with_links (with_used s u) (used_links s.links u) (put_cell s.cells i (j + n) (val v))))) (wrong (with_used s u)) (λ t. goes (next t)) ≡ retag u (opt (on_some o (λ old. Some (with_links s s.links (put_cell s.cells i (j + n) (val v))))) (wrong s) (λ t. goes (next t)))
      go None = refl
      go (Some x) = refl

  -- all but open
  pub does_tag : (ls : List Library) (m k : Room) (o : Instruction) → (does ls k (with_used s u) o ≡ retag u (does ls m s o)) ⊎ ((r : ℕ) × (j : ℕ) × (b : Bool) × (o ≡ Open r j b))
  does_tag ls m k (Set r n) = inl refl
  does_tag ls m k (Get r a n) = inl (on_val_tag (reg s a) _ _ (λ p. on_val_tag (value_at s p n) _ _ (λ v. refl)))
  does_tag ls m k (Sto a n r) = inl (on_val_tag (reg s a) _ _ (λ p. on_val_tag (reg s r) _ _ (λ v. sto_tag p v n)))
  does_tag ls m k (Own r j) = inl refl
  does_tag ls m k (Add r a b) = inl (two_tag r a b (plus s))
  does_tag ls m k (Sub r a b) = inl (two_tag r a b (minus s))
  does_tag ls m k (Mul r a b) = inl (two_tag r a b times)
  does_tag ls m k (Less r a b) = inl (two_tag r a b below)
  does_tag ls m k (Same r a b) = inl (two_tag r a b equal)
  does_tag ls m k (Move r a) = inl (on_val_tag (reg s a) _ _ (λ v. refl))
  does_tag ls m k (Jump j) = inl refl
  does_tag ls m k (If0 r j) = inl (on_val_tag (reg s r) _ _ (elim [ num n ↦ pick_tag (eqb n 0) (to_cell s j) _ (goes (next s)) _ refl refl | place i c ↦ refl ]))
  does_tag ls m k (Call j) = inl (calls_tag j (own s j))
  does_tag ls m k (Callr r) = inl (on_val_tag (reg s r) _ _ calls_place_tag)
  does_tag ls m k Ret = inl (returns_tag s.core.frames)
  does_tag ls m k (Push r) = inl (on_val_tag (reg s r) _ _ (λ v. refl))
  does_tag ls m k (Pop r) = inl (pops_tag r s.core.pushed)
  does_tag ls m k (Out r) = inl (on_num_tag (reg s r) _ _ (λ n. refl))
  does_tag ls m k (In r) = inl refl
  does_tag ls m k (Open r j b) = inr (r, j, b, refl)
  does_tag ls m k (Find r a j) = inl (on_num_tag (reg s a) _ _ (λ h. on_label_tag (own s j) _ _ (λ x. refl)))
  does_tag ls m k (Close r) = inl (on_num_tag (reg s r) _ _ (λ h. pick_tag (may_close s h) (closes_it s r (close_group s.links h)) _ (sets s r (num 0)) _ refl refl))
  does_tag ls m k (End r) = inl (on_num_tag (reg s r) _ _ (λ n. refl))
