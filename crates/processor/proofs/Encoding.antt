-- What was put into a word is read from it.
use Rattle.std.specs.Prelude.{Some}
use Rattle.std.proofs.Common.{◌≡◌, ◌/◌, ◌%◌, true, false, refl, ap, ◌∙◌, arith}
use Rattle.processor.specs.Cpu.{Parts, parts}
use Rattle.processor.specs.Operations.{pack, fields, kind}
use Rattle.processor.specs.Laws.{Fits, Encodes}
use Rattle.processor.specs.declared.words.Operation.{Operation}
use Rattle.processor.specs.declared.words.Operation.TheVariants.{Set, Load, Store, Own, Add, Sub, Mul, Less, Same, Move, Jump, JumpIfZero, Call, CallRegister, Return, Push, Pop, Out, In, Open, Find, Close, End}

pub unpack : (p : Parts) → Fits p → parts (pack p) ≡ p
unfolding pack
unpack p h = λ i. record { o = e0 i; r = e1 i; a = e2 i; b = e3 i; k = e4 i }
  where
    e0 : pack p % 256 ≡ p.o
    e0 = omega (arith, h.o)

    e1 : pack p / 256 % 256 ≡ p.r
    e1 = omega (arith, h.o, h.r)

    e2 : pack p / 65536 % 256 ≡ p.a
    e2 = omega (arith, h.o, h.r, h.a)

    e3 : pack p / 16777216 % 256 ≡ p.b
    e3 = omega (arith, h.o, h.r, h.a, h.b)

    e4 : pack p / 4294967296 % 4294967296 ≡ p.k
    e4 = omega (arith, h.o, h.r, h.a, h.b, h.k)

kind_back : (i : Operation) → kind (fields i) ≡ Some i
kind_back (Set r k) = refl
kind_back (Load r a k) = refl
kind_back (Store a k r) = refl
kind_back (Own r k) = refl
kind_back (Add r a b) = refl
kind_back (Sub r a b) = refl
kind_back (Mul r a b) = refl
kind_back (Less r a b) = refl
kind_back (Same r a b) = refl
kind_back (Move r a) = refl
kind_back (Jump k) = refl
kind_back (JumpIfZero r k) = refl
kind_back (Call k) = refl
kind_back (CallRegister r) = refl
kind_back Return = refl
kind_back (Push r) = refl
kind_back (Pop r) = refl
kind_back (Out r) = refl
kind_back (In r) = refl
kind_back (Open r k true) = refl
kind_back (Open r k false) = refl
kind_back (Find r a k) = refl
kind_back (Close r) = refl
kind_back (End r) = refl

pub encodes : Encodes
encodes = record { fields_back = λ i h. unpack (fields i) h; operation_back = λ i h. ap kind (unpack (fields i) h) ∙ kind_back i }
