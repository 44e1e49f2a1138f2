-- Each step, by the kind of its instruction: what was shown stays shown, and the memory keeps its size.
use Rattle.std.proofs.lemmas.List.{length-set}
use Rattle.std.specs.Prelude.{Option, cond, slice_get}
use Rattle.std.proofs.Common.{◌≡◌, ℕ, Bool, true, false, eqb, List, [], ◌∷◌, length, Some, None, Option as OptionCode, sym, refl, subst}
use Rattle.base.specs.Choices.{opt}
use Rattle.processor.specs.Cpu
use Rattle.processor.specs.Cpu.{Processor, Did, computes, did, step}
use Rattle.processor.specs.declared.Event.TheVariants as event
use Rattle.processor.specs.Operations.{acts, act, decoded}
use Rattle.processor.specs.Laws.{Front, ShowsMore, KeepsSize}
use Rattle.processor.specs.declared.words.Operation.{Operation}
use Rattle.processor.specs.declared.words.Operation.TheVariants.{Set, Load, Store, Own, Add, Sub, Mul, Less, Same, Move, Jump, JumpIfZero, Call, CallRegister, Return, Push, Pop, Out, In, Open, Find, Close, End}
use Rattle.processor.proofs.Shown.{front_self, front_more}
use Rattle.processor.proofs.Decoding.{decodes}

record Keeps (c : Processor) (d : Did) : Type 0 where
  shown : Front c.outs d.cpu.outs
  sized : length d.cpu.words ≡ length c.words

module _ (c : Processor) where
  abbrev same : {d : Did} → d.cpu.outs ≡ c.outs → d.cpu.words ≡ c.words → Keeps c d
  same {d = d} p q = record { shown = rw p (front_self c.outs); sized = rw q }

  pick_keeps : (b : Bool) (d e : Did) → Keeps c d → Keeps c e → Keeps c (cond b d e)
  pick_keeps true d e p q = p
  pick_keeps false d e p q = q

  opt_keeps : (o : Option ℕ) (f : ℕ → Did) → ((x : ℕ) → Keeps c (f x)) → Keeps c (opt o (did c event.Stuck) f)
  opt_keeps None f h = same refl refl
  opt_keeps (Some x) f h = h x

  reg_keeps : (r : ℕ) (f : ℕ → Did) → ((x : ℕ) → Keeps c (f x)) → Keeps c (Cpu.reg c r f)
  reg_keeps r f h = opt_keeps (slice_get c.regs r) f h

  word_keeps : (a : ℕ) (f : ℕ → Did) → ((x : ℕ) → Keeps c (f x)) → Keeps c (Cpu.word c a f)
  word_keeps a f h = opt_keeps (slice_get c.words a) f h

  computes_keeps : (r a b : ℕ) (f : ℕ → ℕ → ℕ) → Keeps c (computes c r a b f)
  computes_keeps r a b f = reg_keeps a _ (λ x. reg_keeps b _ (λ y. same refl refl))

  returns_keeps : (ps : List ℕ) → Keeps c (Cpu.returns c ps)
  returns_keeps [] = same refl refl
  returns_keeps (p ∷ ps) = same refl refl

  pops_keeps : (r : ℕ) (ps : List ℕ) → Keeps c (Cpu.pops c r ps)
  pops_keeps r [] = same refl refl
  pops_keeps r (p ∷ ps) = same refl refl

  acts_keeps : (i : Operation) → Keeps c (acts c i)
  acts_keeps (Set r k) = same refl refl
  acts_keeps (Load r a k) = reg_keeps a _ (λ x. word_keeps _ _ (λ w. same refl refl))
  acts_keeps (Store a k r) = reg_keeps a _ (λ x. reg_keeps r _ (λ y. word_keeps _ _ (λ w. record { shown = front_self c.outs; sized = length-set c.words _ y })))
  acts_keeps (Own r k) = same refl refl
  acts_keeps (Add r a b) = computes_keeps r a b _
  acts_keeps (Sub r a b) = computes_keeps r a b _
  acts_keeps (Mul r a b) = computes_keeps r a b _
  acts_keeps (Less r a b) = computes_keeps r a b _
  acts_keeps (Same r a b) = computes_keeps r a b _
  acts_keeps (Move r a) = reg_keeps a _ (λ x. same refl refl)
  acts_keeps (Jump k) = same refl refl
  acts_keeps (JumpIfZero r k) = reg_keeps r _ (λ x. same refl refl)
  acts_keeps (Call k) = word_keeps _ _ (λ x. pick_keeps (eqb x 0) _ _ (same refl refl) (same refl refl))
  acts_keeps (CallRegister r) = reg_keeps r _ (λ x. same refl refl)
  acts_keeps Return = returns_keeps c.backs
  acts_keeps (Push r) = reg_keeps r _ (λ x. same refl refl)
  acts_keeps (Pop r) = pops_keeps r c.pushed
  acts_keeps (Out r) = reg_keeps r _ (λ x. record { shown = front_more c.outs _; sized = refl })
  acts_keeps (In r) = record { shown = front_more c.outs _; sized = refl }
  acts_keeps (Open r k global) = word_keeps _ _ (λ x. same refl refl)
  acts_keeps (Find r a k) = word_keeps _ _ (λ x. same refl refl)
  acts_keeps (Close r) = same refl refl
  acts_keeps (End r) = same refl refl

  act_keeps : (o : OptionCode Operation) → Keeps c (act c o)
  act_keeps None = same refl refl
  act_keeps (Some i) = acts_keeps i

  step_keeps : Keeps c (step c)
  step_keeps = pick_keeps (eqb c.pc 0) _ _ (same refl refl) (word_keeps c.pc _ (λ w. subst (Keeps c) (sym (decodes c w)) (act_keeps (decoded w))))

pub step_shows : ShowsMore
step_shows c = (step_keeps c).shown

pub step_sized : KeepsSize
step_sized c = (step_keeps c).sized
