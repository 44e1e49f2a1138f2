-- Arithmetic on values and on words.
use Rattle.std.specs.Prelude.{None, Option, Some, cond, slice_get}
use Rattle.std.proofs.Common.{◌≡◌, ℕ, ◌+◌, ◌-◌, ◌*◌, ◌%◌, ◌<◌, Bool, true, false, ◌&&◌, eqb, ltb, leb, List, length, sym, refl, arith}
use Rattle.std.proofs.lemmas.Bool.{leb-true, eqb-true, ne_eqb, and_parts}
use Rattle.std.proofs.lemmas.Bool.Decides.{nat_tests}
use Rattle.base.specs.Choices.{on_some, guard}
use Rattle.library.specs.Library.{Add, Sub, Mul, Less, Same, Library}
use Rattle.links.specs.Links.{Module, Room}
use Rattle.meaning.specs.State.{Value, num, place, State}
use Rattle.meaning.specs.Values as values
use Rattle.meaning.specs.Steps as steps
use Rattle.processor.specs.Cpu
use Rattle.processor.specs.Cpu.{Processor}
use Rattle.image.specs.Encode.{fields}
use Rattle.simulation.specs.Layout.{Layout, base_of, size_of, addr, Fits}
use Rattle.simulation.specs.Relation.{Rel}
use Rattle.simulation.proofs.Plain.{Good, sets_good, on_reg}

-- what an operation on values gives is what the one on words gives
abbrev Gives : Layout → Option Value → ℕ → Type 0
Gives k None w = Unit
Gives k (Some v) w = Fits k v × (w % Cpu.all ≡ addr k v)

pick_gives : (k : Layout) (b : Bool) (o p : Option Value) (w : ℕ) → (b ≡ true → Gives k o w) → (b ≡ false → Gives k p w) → Gives k (cond b o p) w
pick_gives k true o p w f g = f refl
pick_gives k false o p w f g = g refl

guard_gives : (k : Layout) (b : Bool) (o : Option Value) (w : ℕ) → (b ≡ true → Gives k o w) → Gives k (guard b o) w
guard_gives k true o w f = f refl
guard_gives k false o w f = tt

module _ (ls : List Library) (k : Layout) (s : State) (c : Processor) (rel : Rel ls k s c) where
  moves_gives : (i j n w : ℕ) → Fits k (place i j) → n < Cpu.all → w % Cpu.all ≡ (base_of k i + j + n) % Cpu.all → Gives k (values.moves s i j n) w
  moves_gives i j n w f h e = go (slice_get s.links.modules i) refl
    where
      l : base_of k i + size_of k i < length c.words
      l = rel.mem.ground.placed.last i f.0

      few : length c.words < 4294967296
      few = rel.mem.ground.placed.few

      up : (z : ℕ) → z ≡ size_of k i → leb (j + n) z ≡ true → Gives k (Some (place i (j + n))) w
      up z q u = let p = leb-true (j + n) z u in ((f.0, omega (arith, l, few)), omega (arith, l, few))

      down : (z : ℕ) → z ≡ size_of k i → (leb (Cpu.all - n) j && leb (j - (Cpu.all - n)) z) ≡ true → Gives k (Some (place i (j - (Cpu.all - n)))) w
      down z q u = let p = and_parts _ _ u in let p0 = leb-true (Cpu.all - n) j p.0 in let p1 = leb-true (j - (Cpu.all - n)) z p.1 in ((f.0, omega (arith, l, few, f.1)), omega (arith, l, few, f.1))

      go : (o : Option Module) → slice_get s.links.modules i ≡ o → Gives k (on_some (on_some o (λ x. Some (length x.lib.cells))) (λ z. cond (ltb n values.half) (guard (leb (j + n) z) (Some (place i (j + n)))) (guard (leb (Cpu.all - n) j && leb (j - (Cpu.all - n)) z) (Some (place i (j - (Cpu.all - n))))))) w
      go None q = tt
      go (Some x) q = let z = sym (rel.mem.ground.sized i x q) in pick_gives k (ltb n values.half) _ _ w (λ t. guard_gives k _ (Some (place i (j + n))) w (up (length x.lib.cells) z)) (λ t. guard_gives k _ (Some (place i (j - (Cpu.all - n)))) w (down (length x.lib.cells) z))

  plus_gives : (x y : Value) → Fits k x → Fits k y → Gives k (values.plus s x y) (addr k x + addr k y)
  plus_gives (num x) (num y) f g = (omega arith, refl)
  plus_gives (num x) (place i j) f g = moves_gives i j x _ g f (omega arith)
  plus_gives (place i j) (num y) f g = moves_gives i j y _ f g refl
  plus_gives (place i j) (place a b) f g = tt

  minus_gives : (x y : Value) → Fits k x → Fits k y → Gives k (values.minus s x y) ((addr k x + Cpu.all) - addr k y)
  minus_gives (num x) (num y) f g = (omega arith, refl)
  minus_gives (num x) (place i j) f g = tt
  minus_gives (place i j) (num y) f g = moves_gives i j ((Cpu.all - y) % Cpu.all) _ f (omega arith) (omega arith)
  minus_gives (place i j) (place a b) f g = guard_gives k (eqb i a) _ _ (λ e. let p = eqb-true i a e in (omega arith, rw p (omega (arith, rel.mem.ground.placed.last a g.0, rel.mem.ground.placed.few, g.1))))

  times_gives : (x y : Value) → Fits k x → Fits k y → Gives k (values.times x y) (addr k x * addr k y)
  times_gives (num x) (num y) f g = (omega arith, refl)
  times_gives (num x) (place i j) f g = tt
  times_gives (place i j) y f g = tt

  bit_gives : (b d : Bool) → b ≡ d → Gives k (Some (values.bit b)) (Cpu.bit d)
  bit_gives true d e = rw (← e) (omega arith, refl)
  bit_gives false d e = rw (← e) (omega arith, refl)

  below_gives : (x y : Value) → Fits k x → Fits k y → Gives k (values.below x y) (Cpu.bit (ltb (addr k x) (addr k y)))
  below_gives (num x) (num y) f g = bit_gives _ _ refl
  below_gives (num x) (place i j) f g = tt
  below_gives (place i j) (num y) f g = tt
  below_gives (place i j) (place a b) f g = guard_gives k (eqb i a) _ _ (λ e. let p = eqb-true i a e in rw p (bit_gives (ltb j b) (ltb (base_of k a + j) (base_of k a + b)) (grind (arith, nat_tests))))

  equal_gives : (x y : Value) → Fits k x → Fits k y → Gives k (values.equal x y) (Cpu.bit (eqb (addr k x) (addr k y)))
  equal_gives (num x) (num y) f g = bit_gives _ _ refl
  equal_gives (num x) (place i j) f g = guard_gives k (eqb x 0) _ _ (λ e. let p = eqb-true x 0 e in let q = ne_eqb x (base_of k i + j) (λ t. omega (arith, rel.mem.ground.placed.first i g.0)) in (omega arith, rw q refl))
  equal_gives (place i j) (num y) f g = guard_gives k (eqb y 0) _ _ (λ e. let p = eqb-true y 0 e in let q = ne_eqb (base_of k i + j) y (λ t. omega (arith, rel.mem.ground.placed.first i f.0)) in (omega arith, rw q refl))
  equal_gives (place i j) (place a b) f g = guard_gives k (eqb i a) _ _ (λ e. let p = eqb-true i a e in rw p (bit_gives (eqb j b) (eqb (base_of k a + j) (base_of k a + b)) (grind (arith, nat_tests))))

  two_good : (r a b : ℕ) (f : Value → Value → Option Value) (g : ℕ → ℕ → ℕ) → s.core.here.cell < size_of k s.core.here.host → ((x y : Value) → Fits k x → Fits k y → Gives k (f x y) (g (addr k x) (addr k y))) → Good ls k s c.outs (steps.two s r a b f) (Cpu.two c (record { o = 0; r = r; a = a; b = b; k = 0 }) g)
  two_good r a b f g low h = on_reg ls k s c rel a _ _ (λ x fx. on_reg ls k s c rel b _ _ (λ y fy. go x y (f x y) (h x y fx fy)))
    where
      go : (x y : Value) (o : Option Value) → Gives k o (g (addr k x) (addr k y)) → Good ls k s c.outs (values.on_val s o (values.sets s r)) (Cpu.sets c r (g (addr k x) (addr k y)))
      go x y None q = sym rel.outs
      go x y (Some v) q = sets_good ls k s c rel r _ v low q.0 q.1

  module _ (m : Room) (low : s.core.here.cell < size_of k s.core.here.host) where
    pub add_good : (r a b : ℕ) → Good ls k s c.outs (steps.does ls m s (Add r a b)) (Cpu.does c (fields (Add r a b) s.core.here.cell))
    add_good r a b = two_good r a b (values.plus s) (λ x y. x + y) low plus_gives

    pub sub_good : (r a b : ℕ) → Good ls k s c.outs (steps.does ls m s (Sub r a b)) (Cpu.does c (fields (Sub r a b) s.core.here.cell))
    sub_good r a b = two_good r a b (values.minus s) (λ x y. (x + Cpu.all) - y) low minus_gives

    pub mul_good : (r a b : ℕ) → Good ls k s c.outs (steps.does ls m s (Mul r a b)) (Cpu.does c (fields (Mul r a b) s.core.here.cell))
    mul_good r a b = two_good r a b values.times (λ x y. x * y) low times_gives

    pub less_good : (r a b : ℕ) → Good ls k s c.outs (steps.does ls m s (Less r a b)) (Cpu.does c (fields (Less r a b) s.core.here.cell))
    less_good r a b = two_good r a b values.below (λ x y. Cpu.bit (ltb x y)) low below_gives

    pub same_good : (r a b : ℕ) → Good ls k s c.outs (steps.does ls m s (Same r a b)) (Cpu.does c (fields (Same r a b) s.core.here.cell))
    same_good r a b = two_good r a b values.equal (λ x y. Cpu.bit (eqb x y)) low equal_gives
