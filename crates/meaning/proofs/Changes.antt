-- What a step can change, and what then holds of whole runs.
use Rattle.std.specs.Prelude.{None, Option, Some, cond}
use Rattle.std.proofs.Common.{◌≡◌, ℕ, zero, suc, ◌+◌, ◌≤◌, Bool, true, false, eqb, List, [], ◌∷◌, length, drop, sym, refl, subst, ⊎_elim, arith}
use Rattle.base.specs.Choices.{opt, on_some}
use Rattle.base.specs.Names.{Name}
use Rattle.library.specs.Library.{Symbol, Instruction, Set, Get, Sto, Own, Add, Sub, Mul, Less, Same, Move, Jump, If0, Call, Callr, Ret, Push, Pop, Out, In, Open, Find, Close, End, Library}
use Rattle.links.specs.Links.{Place, Room}
use Rattle.links.specs.Scope.{resolve}
use Rattle.links.specs.Load.{Loaded, load}
use Rattle.links.specs.Close.{leaving, unload, close_group, fini_calls, slot_bound}
use Rattle.meaning.specs.State.{Value, num, place, Held, val, link, label, code, Sequel, gives, drops, ends, stops, Frame, back, pending, Core, State, Next, goes, ended, lost, wrong, all, with_core, with_links, held_at, loaded}
use Rattle.meaning.specs.Calls.{follows, returns, calls_all}
use Rattle.meaning.specs.Values.{on_num, on_val, reg, behind, next, sets, plus, minus, below, equal, times}
use Rattle.meaning.specs.Steps.{two, is_val, value_at, put_cell, write_at, calls_place, binds_to, calls_through, on_label, opens, may_close, own, pops, showing, zero_is, does, here_code, step, then}
use Rattle.meaning.specs.Runs.{after}
use Rattle.meaning.specs.Always.{state_of}
use Rattle.std.proofs.lemmas.Bool.{cases_eq}

-- how frames change while nothing but the core does
pub data Framed (s : State) (c : Core) : Type 0 where
  kept : c.frames ≡ s.core.frames → Framed s c
  -- a place to come back to is noted
  noted : (p : Place) → c.frames ≡ back p ∷ s.core.frames → Framed s c
  came_back : (p : Place) (fs : List Frame) → s.core.frames ≡ back p ∷ fs → c.frames ≡ fs → Framed s c
  -- the next of pending calls is taken
  taken : (p : Place) (ps : List Place) (f : Sequel) (fs : List Frame) → s.core.frames ≡ pending (p ∷ ps) f ∷ fs → c.frames ≡ pending ps f ∷ fs → Framed s c
  -- inits of an open are through
  opened : (r : ℕ) (v : Value) (p : Place) (fs : List Frame) → s.core.frames ≡ pending [] (gives r v p) ∷ fs → c.frames ≡ fs → Framed s c
  -- the program ends: nothing is pending but finis
  cleared : (ps : List Place) (n : ℕ) → c.frames ≡ pending ps (stops n) ∷ [] → Framed s c

-- from s to what a step comes to; but for what is said, links, cells, what is left to read and what was shown stay
pub data Change (ls : List Library) (m : Room) (s : State) : Next → Type 0 where
  no_meaning : Change ls m s (wrong s)
  is_lost : Change ls m s (lost s)
  has_ended : (n : ℕ) → Change ls m s (ended n s)
  runs : (c : Core) → Framed s c → Change ls m s (goes (with_core s c))
  writes : (c : Core) (i k : ℕ) (old v : Value) → held_at s i k ≡ Some (val old) → c.frames ≡ s.core.frames → Change ls m s (goes (with_core (with_links s s.links (put_cell s.cells i k (val v))) c))
  shows : (c : Core) (is : List ℕ) (o : ℕ) → c.frames ≡ s.core.frames → Change ls m s (goes (with_core (showing s is o) c))
  opens_group : (c : Core) (x : Name) (global : Bool) (l : Loaded) (r : ℕ) (v : Value) (p : Place) → load ls m x global s.links ≡ Some l → c.frames ≡ pending l.calls (gives r v p) ∷ s.core.frames → Change ls m s (goes (with_core (loaded s l) c))
  binds_slot : (c : Core) (k : ℕ) (y : Symbol) (p q : Place) → own s k ≡ Some (link y None) → resolve s.links s.core.here.host y ≡ Some p → c.frames ≡ back q ∷ s.core.frames → Change ls m s (goes (with_core (with_links s (slot_bound s.links s.core.here.host k p) (put_cell s.cells s.core.here.host k (link y (Some (place p.host p.cell))))) c))
  -- a close begins: finis are pending; when they are through, it is done
  begins_close : (c : Core) (h r : ℕ) (p : Place) → may_close s h ≡ true → c.frames ≡ pending (fini_calls (close_group s.links h) (leaving (close_group s.links h))) (drops (leaving (close_group s.links h)) r p) ∷ s.core.frames → Change ls m s (goes (with_core (with_links s (close_group s.links h) s.cells) c))
  does_close : (c : Core) (js : List ℕ) (r : ℕ) (p : Place) (fs : List Frame) → s.core.frames ≡ pending [] (drops js r p) ∷ fs → c.frames ≡ fs → Change ls m s (goes (with_core (with_links s (unload js s.links) s.cells) c))

module _ (ls : List Library) (m : Room) (s : State) where
  abbrev C : Next → Type 0
  C = Change ls m s

  with_val : (o : Option Value) (f : Value → Next) → ((v : Value) → C (f v)) → C (on_val s o f)
  with_val None f h = no_meaning
  with_val (Some v) f h = h v

  with_num : (o : Option Value) (f : ℕ → Next) → ((n : ℕ) → C (f n)) → C (on_num s o f)
  with_num None f h = no_meaning
  with_num (Some (num n)) f h = h n
  with_num (Some (place i k)) f h = no_meaning

  with_label : (o : Option Held) (f : Name → Next) → ((x : Name) → C (f x)) → C (on_label s o f)
  with_label None f h = no_meaning
  with_label (Some (val v)) f h = no_meaning
  with_label (Some (link y o)) f h = no_meaning
  with_label (Some (label x)) f h = h x
  with_label (Some (code o)) f h = no_meaning

  picks : (b : Bool) (x y : Next) → (b ≡ true → C x) → C y → C (cond b x y)
  picks true x y p q = p refl
  picks false x y p q = q

  sets_it : (r : ℕ) (v : Value) → C (sets s r v)
  sets_it r v = runs _ (kept refl)

  with_two : (r a b : ℕ) (f : Value → Value → Option Value) → C (two s r a b f)
  with_two r a b f = with_val (reg s a) _ (λ x. with_val (reg s b) _ (λ y. with_val (f x y) _ (sets_it r)))

  follows_it : (f : Sequel) (fs : List Frame) → s.core.frames ≡ pending [] f ∷ fs → C (follows s f fs)
  follows_it (gives r v p) fs e = runs _ (opened r v p fs e refl)
  follows_it (drops js r p) fs e = does_close _ js r p fs e refl
  follows_it (ends n) fs e = runs _ (cleared _ n refl)
  follows_it (stops n) fs e = has_ended n

  returns_it : (fs : List Frame) → s.core.frames ≡ fs → C (returns s fs)
  returns_it [] e = no_meaning
  returns_it (back p ∷ fs) e = runs _ (came_back p fs e refl)
  returns_it (pending [] f ∷ fs) e = follows_it f fs e
  returns_it (pending (p ∷ ps) f ∷ fs) e = runs _ (taken p ps f fs e refl)

  calls_it : (v : Value) → C (calls_place s v)
  calls_it (num n) = no_meaning
  calls_it (place i k) = runs _ (noted _ refl)

  binds_it : (k : ℕ) (y : Symbol) → own s k ≡ Some (link y None) → (o : Option Place) → resolve s.links s.core.here.host y ≡ o → C (opt o (lost s) (binds_to s k y))
  binds_it k y e None q = is_lost
  binds_it k y e (Some p) q = binds_slot _ k y p _ e q refl

  calls_slot : (k : ℕ) (o : Option Held) → own s k ≡ o → C (calls_through s k o)
  calls_slot k None e = no_meaning
  calls_slot k (Some (val v)) e = no_meaning
  calls_slot k (Some (link y (Some v))) e = calls_it v
  calls_slot k (Some (link y None)) e = binds_it k y e (resolve s.links s.core.here.host y) refl
  calls_slot k (Some (label x)) e = no_meaning
  calls_slot k (Some (code o)) e = no_meaning

  opens_it : (r : ℕ) (global : Bool) (x : Name) → C (opens ls m s r global x)
  opens_it r global x = go (load ls m x global s.links) refl
    where
      go : (o : Option Loaded) → load ls m x global s.links ≡ o → C (opt o (sets s r (num 0)) (λ l. calls_all (loaded s l) l.calls (gives r (num (length s.links.groups)) (behind s.core.here))))
      go None e = sets_it r (num 0)
      go (Some l) e = opens_group _ x global l r _ _ e refl

  stores_it : (p v : Value) (k : ℕ) → C (opt (write_at s p k v) (wrong s) (λ t. goes (next t)))
  stores_it (num n) v k = no_meaning
  stores_it (place i c) v k = go (held_at s i (c + k)) refl
    where
      go : (o : Option Held) → held_at s i (c + k) ≡ o → C (opt (on_some (on_some o is_val) (λ old. Some (with_links s s.links (put_cell s.cells i (c + k) (val v))))) (wrong s) (λ t. goes (next t)))
      go None e = no_meaning
      go (Some (val old)) e = writes _ i (c + k) old v e refl
      go (Some (link y o)) e = no_meaning
      go (Some (label x)) e = no_meaning
      go (Some (code o)) e = no_meaning

  pops_it : (r : ℕ) (vs : List Value) → C (pops s r vs)
  pops_it r [] = no_meaning
  pops_it r (v ∷ vs) = runs _ (kept refl)

  does_change : (o : Instruction) → C (does ls m s o)
  does_change (Set r n) = sets_it r (num n)
  does_change (Get r a k) = with_val (reg s a) _ (λ p. with_val (value_at s p k) _ (sets_it r))
  does_change (Sto a k r) = with_val (reg s a) _ (λ p. with_val (reg s r) _ (λ v. stores_it p v k))
  does_change (Own r k) = sets_it r _
  does_change (Add r a b) = with_two r a b (plus s)
  does_change (Sub r a b) = with_two r a b (minus s)
  does_change (Mul r a b) = with_two r a b times
  does_change (Less r a b) = with_two r a b below
  does_change (Same r a b) = with_two r a b equal
  does_change (Move r a) = with_val (reg s a) _ (sets_it r)
  does_change (Jump k) = runs _ (kept refl)
  does_change (If0 r k) = with_val (reg s r) _ (λ v. picks (zero_is v) _ _ (λ e. runs _ (kept refl)) (runs _ (kept refl)))
  does_change (Call k) = calls_slot k (own s k) refl
  does_change (Callr r) = with_val (reg s r) _ calls_it
  does_change Ret = returns_it s.core.frames refl
  does_change (Push r) = with_val (reg s r) _ (λ v. runs _ (kept refl))
  does_change (Pop r) = pops_it r s.core.pushed
  does_change (Out r) = with_num (reg s r) _ (λ n. shows _ s.ins n refl)
  does_change (In r) = shows _ (drop 1 s.ins) all refl
  does_change (Open r k global) = with_label (own s k) _ (opens_it r global)
  does_change (Find r a k) = with_num (reg s a) _ (λ h. with_label (own s k) _ (λ x. sets_it r _))
  does_change (Close r) = with_num (reg s r) _ (λ h. picks (may_close s h) _ _ (λ e. begins_close _ h r _ e refl) (sets_it r (num 0)))
  does_change (End r) = with_num (reg s r) _ (λ n. runs _ (cleared _ n refl))

  runs_code : (o : Option Held) → C (here_code o (does ls m s) (wrong s))
  runs_code None = no_meaning
  runs_code (Some (val v)) = no_meaning
  runs_code (Some (link y o)) = no_meaning
  runs_code (Some (label x)) = no_meaning
  runs_code (Some (code o)) = does_change o

  pub step_change : C (step ls m s)
  step_change = picks (eqb s.core.here.cell 8589934592) _ _ (λ e. returns_it s.core.frames refl) (runs_code (own s s.core.here.cell))

-- what holds from each state to the next holds along every run
module _ (ls : List Library) (m : Room) (R : State → State → Type 0) (self : (s : State) → R s s) (on : (a b c : State) → R a b → R b c → R a c) (by : (s : State) (n : Next) → Change ls m s n → R s (state_of n)) where
  then_by : (n : Next) → R (state_of n) (state_of (then n (step ls m)))
  then_by (goes s) = by s (step ls m s) (step_change ls m s)
  then_by (ended n s) = self s
  then_by (lost s) = self s
  then_by (wrong s) = self s

  pub after_by : (s : State) (n k : ℕ) → n ≤ k → R (state_of (after ls m s n)) (state_of (after ls m s k))
  after_by s n zero h = let z : n ≡ 0 = omega arith in subst (λ a. R (state_of (after ls m s a)) s) (sym z) (self s)
  after_by s n (suc k) h = ⊎_elim (λ z. subst (λ a. R (state_of (after ls m s a)) (state_of (after ls m s (suc k)))) (sym z) (self (state_of (after ls m s (suc k))))) (λ z. on (state_of (after ls m s n)) (state_of (after ls m s k)) (state_of (after ls m s (suc k))) (after_by s n k (omega arith)) (then_by (after ls m s k))) (cases_eq n (suc k))
