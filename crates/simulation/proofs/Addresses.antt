-- Addresses of live modules are apart, and a step changes the word of the cell that it writes alone.
use Rattle.std.proofs.lemmas.Option.{slice_get_within}
use Rattle.std.specs.Prelude.{None, Option, Some, cond, slice_get}
use Rattle.std.proofs.Common.{◌≡◌, ℕ, ◌+◌, ◌<◌, ◌≤◌, Bool, true, false, eqb, ◌⊎◌, List, [], ◌∷◌, sym, refl, ap, ◌∙◌, subst, inl, inr, ⊎_elim, arith}
use Rattle.std.proofs.lemmas.Bool.{cases_eq}
use Rattle.base.specs.Choices.{opt}
use Rattle.base.proofs.Lists.{slice_get-set_other}
use Rattle.library.specs.Library.{Instruction, Set, Get, Sto, Own, Add, Sub, Mul, Less, Same, Move, Jump, If0, Call, Callr, Ret, Push, Pop, Out, In, Open, Find, Close, End, Library}
use Rattle.links.specs.Links.{Module, Room}
use Rattle.links.specs.Scope.{live_at}
use Rattle.meaning.specs.State as state
use Rattle.meaning.specs.State.{Held, val, link, label, code, State, Next, goes, ended, lost, wrong}
use Rattle.meaning.specs.Steps as steps
use Rattle.processor.specs.Cpu
use Rattle.processor.specs.Cpu.{Processor, Did}
use Rattle.processor.specs.declared.Event.TheVariants as events
use Rattle.image.specs.Encode.{fields}
use Rattle.simulation.specs.Layout.{Layout, base_of, size_of}
use Rattle.simulation.specs.Relation.{Rel}
use Rattle.simulation.specs.Addresses.{CellsApart, PlaceNot0, BehindAlone, Stored, StoresOwn}
use Rattle.simulation.proofs.Memory.{no_two, sto_cases}
use Rattle.simulation.proofs.Turn.{m_step, at_code, c_step, low}

pub cells_apart : CellsApart
cells_apart ls k s c rel i j a b x y ei ea hj hb e = ⊎_elim (λ q. (q, omega (arith, ap (base_of k) q))) (λ q. absurd (no_two ls k s.links s.cells c.words rel.mem a b i j y x ea ei hb hj q e)) (cases_eq i a)

pub place_not_0 : PlaceNot0
place_not_0 ls k s c rel i j f e = omega (arith, rel.mem.ground.placed.first i f.0, e)

pub behind_alone : BehindAlone
behind_alone ls k s c rel i x ei = record {
  taken = rel.mem.ground.apart.below i x ei;
  no_cell = λ a b y ea h e. ⊎_elim (λ q. omega (arith, ap (base_of k) q, ap (size_of k) q)) (λ q. ⊎_elim (λ l. omega arith) (λ l. omega arith) (rel.mem.ground.apart.apart a i y x ea ei q)) (cases_eq a i);
  behind = λ a y ea e. ⊎_elim (λ q. q) (λ q. absurd (⊎_elim (λ l. omega arith) (λ l. omega arith) (rel.mem.ground.apart.apart a i y x ea ei q))) (cases_eq a i);
}

module _ (ls : List Library) (k : Layout) (m : Room) (s t : State) (c : Processor) (rel : Rel ls k s c) where
  -- a step that changes no word
  record SameWords (d : Did) : Type 0 where
    same : d.cpu.words ≡ c.words

  reg_same : (a : ℕ) (f : ℕ → Did) → ((x : ℕ) → SameWords (f x)) → SameWords (Cpu.reg c a f)
  reg_same a f h = go (slice_get c.regs a)
    where
      go : (o : Option ℕ) → SameWords (opt o (Cpu.did c events.Stuck) f)
      go None = record { same = refl }
      go (Some x) = h x

  word_same : (a : ℕ) (f : ℕ → Did) → ((x : ℕ) → SameWords (f x)) → SameWords (Cpu.word c a f)
  word_same a f h = go (slice_get c.words a)
    where
      go : (o : Option ℕ) → SameWords (opt o (Cpu.did c events.Stuck) f)
      go None = record { same = refl }
      go (Some x) = h x

  call_same : (a x : ℕ) (b : Bool) → SameWords (cond b (Cpu.did c (events.Bind a)) (Cpu.calls c x))
  call_same a x true = record { same = refl }
  call_same a x false = record { same = refl }

  ret_same : (ns : List ℕ) → SameWords (Cpu.returns c ns)
  ret_same [] = record { same = refl }
  ret_same (n ∷ ns) = record { same = refl }

  pop_same : (r : ℕ) (ns : List ℕ) → SameWords (Cpu.pops c r ns)
  pop_same r [] = record { same = refl }
  pop_same r (n ∷ ns) = record { same = refl }

  -- what a store comes to
  abbrev IfStored : Next → Did → Type 0
  IfStored (goes u) d = Stored k s u c d.cpu
  IfStored (ended n u) d = Unit
  IfStored (lost u) d = Unit
  IfStored (wrong u) d = Unit

  sto_stored : (a n r : ℕ) → state.held_at s s.core.here.host s.core.here.cell ≡ Some (code (Sto a n r)) → IfStored (steps.does ls m s (Sto a n r)) (Cpu.does c (fields (Sto a n r) s.core.here.cell))
  sto_stored a n r e = sto_cases ls k s c rel m (low k ls m s c rel _ e) IfStored (λ d. tt) (λ i j v old x hs fv ei es ej. let h : j < size_of k i = omega (arith, slice_get_within hs j (val old) ej, (rel.mem.cells i x hs ei es).sized) in record {
    host = i;
    cell = j;
    value = v;
    x = x;
    live = ei;
    inside = h;
    cells = refl;
    words = refl;
    others = λ a b y ea l d. slice_get-set_other c.words (base_of k i + j) (base_of k a + b) _ (λ q. others i j x a b y ei ea h l d q);
  }) a n r (at_code k ls m s c rel _ e).2.1
    where
      others : (i j : ℕ) (x : Module) (a b : ℕ) (y : Module) → live_at s.links.modules i ≡ Some x → live_at s.links.modules a ≡ Some y → j < size_of k i → b ≤ size_of k a → ((a ≡ i) × (b ≡ j) → ⊥) → base_of k a + b ≡ base_of k i + j → ⊥
      others i j x a b y ei ea h l d q = ⊎_elim (λ p. d (p, omega (arith, ap (base_of k) p))) (λ p. ⊎_elim (λ u. omega arith) (λ u. omega arith) (rel.mem.ground.apart.apart a i y x ea ei p)) (cases_eq a i)

  by_code : (o : Instruction) → state.held_at s s.core.here.host s.core.here.cell ≡ Some (code o) → steps.does ls m s o ≡ goes t → SameWords (Cpu.does c (fields o s.core.here.cell)) ⊎ Stored k s t c (Cpu.does c (fields o s.core.here.cell)).cpu
  by_code (Set r n) e q = inl (record { same = refl })
  by_code (Get r a n) e q = inl (reg_same a _ (λ x. word_same _ _ (λ y. record { same = refl })))
  by_code (Sto a n r) e q = inr (subst (λ u. IfStored u (Cpu.does c (fields (Sto a n r) s.core.here.cell))) q (sto_stored a n r e))
  by_code (Own r j) e q = inl (record { same = refl })
  by_code (Add r a b) e q = inl (reg_same a _ (λ x. reg_same b _ (λ y. record { same = refl })))
  by_code (Sub r a b) e q = inl (reg_same a _ (λ x. reg_same b _ (λ y. record { same = refl })))
  by_code (Mul r a b) e q = inl (reg_same a _ (λ x. reg_same b _ (λ y. record { same = refl })))
  by_code (Less r a b) e q = inl (reg_same a _ (λ x. reg_same b _ (λ y. record { same = refl })))
  by_code (Same r a b) e q = inl (reg_same a _ (λ x. reg_same b _ (λ y. record { same = refl })))
  by_code (Move r a) e q = inl (reg_same a _ (λ x. record { same = refl }))
  by_code (Jump j) e q = inl (record { same = refl })
  by_code (If0 r j) e q = inl (reg_same r _ (λ x. record { same = refl }))
  by_code (Call j) e q = inl (word_same _ _ (λ x. call_same _ x (eqb x 0)))
  by_code (Callr r) e q = inl (reg_same r _ (λ x. record { same = refl }))
  by_code Ret e q = inl (ret_same c.backs)
  by_code (Push r) e q = inl (reg_same r _ (λ x. record { same = refl }))
  by_code (Pop r) e q = inl (pop_same r c.pushed)
  by_code (Out r) e q = inl (reg_same r _ (λ x. record { same = refl }))
  by_code (In r) e q = inl (record { same = refl })
  by_code (Open r j b) e q = inl (word_same _ _ (λ x. record { same = refl }))
  by_code (Find r a j) e q = inl (word_same _ _ (λ x. record { same = refl }))
  by_code (Close r) e q = inl (record { same = refl })
  by_code (End r) e q = inl (record { same = refl })

  wrong_not : wrong s ≡ goes t → ⊥
  wrong_not q = let z : ◌≡◌ {A = ℕ} 0 1 = cc in omega arith

  by_cell : (o : Option Held) → state.held_at s s.core.here.host s.core.here.cell ≡ o → steps.here_code o (steps.does ls m s) (wrong s) ≡ goes t → ((Cpu.step c).cpu.words ≡ c.words) ⊎ Stored k s t c (Cpu.step c).cpu
  by_cell None e q = absurd (wrong_not q)
  by_cell (Some (val v)) e q = absurd (wrong_not q)
  by_cell (Some (link y o)) e q = absurd (wrong_not q)
  by_cell (Some (label x)) e q = absurd (wrong_not q)
  by_cell (Some (code o)) e q = subst (λ d. (d.cpu.words ≡ c.words) ⊎ Stored k s t c d.cpu) (sym (c_step k ls m s c rel o e)) (⊎_elim (λ x. inl x.same) inr (by_code o e q))

pub stores_own : StoresOwn
stores_own ls k m s t c rel q = by_cell ls k m s t c rel _ refl (sym (m_step k ls m s c rel _ refl) ∙ q)
