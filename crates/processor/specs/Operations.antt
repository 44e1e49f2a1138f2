-- Instructions by kind, their words, and what each does: the same as the definition by numbers.
use Rattle.std.specs.Prelude.{ℕ, suc, ◌+◌, ◌-◌, ◌*◌, ◌%◌, Some, None, Option, ◌==◌, nat_lt, cond}
use Rattle.processor.specs.declared.Event.TheVariants as event
use Rattle.processor.specs.Cpu.{Processor, Did, Parts, parts, did, all, reg, word, sets, there, goes, stores, calls, through, returns, pushes, pops, shows, reads, asks, bit, computes}
use Rattle.processor.specs.declared.words.Operation.{Operation}
use Rattle.processor.specs.declared.words.Operation.TheVariants.{Set, Load, Store, Own, Add, Sub, Mul, Less, Same, Move, Jump, JumpIfZero, Call, CallRegister, Return, Push, Pop, Out, In, Open, Find, Close, End}

-- the instruction that a word's fields are
abbrev pub kind : Parts → Option Operation
kind p =
    cond (p.o == 1) (Some (Set p.r p.k))
    (cond (p.o == 2) (Some (Load p.r p.a p.k))
    (cond (p.o == 3) (Some (Store p.a p.k p.r))
    (cond (p.o == 4) (Some (Own p.r p.k))
    (cond (p.o == 5) (Some (Add p.r p.a p.b))
    (cond (p.o == 6) (Some (Sub p.r p.a p.b))
    (cond (p.o == 7) (Some (Mul p.r p.a p.b))
    (cond (p.o == 8) (Some (Less p.r p.a p.b))
    (cond (p.o == 9) (Some (Same p.r p.a p.b))
    (cond (p.o == 10) (Some (Move p.r p.a))
    (cond (p.o == 11) (Some (Jump p.k))
    (cond (p.o == 12) (Some (JumpIfZero p.r p.k))
    (cond (p.o == 13) (Some (Call p.k))
    (cond (p.o == 14) (Some (CallRegister p.r))
    (cond (p.o == 15) (Some Return)
    (cond (p.o == 16) (Some (Push p.r))
    (cond (p.o == 17) (Some (Pop p.r))
    (cond (p.o == 18) (Some (Out p.r))
    (cond (p.o == 19) (Some (In p.r))
    (cond (p.o == 20) (Some (Open p.r p.k (p.a == 1)))
    (cond (p.o == 21) (Some (Find p.r p.a p.k))
    (cond (p.o == 22) (Some (Close p.r))
    (cond (p.o == 23) (Some (End p.r)) None))))))))))))))))))))))

-- the instruction that a word is, if it is one
abbrev pub decoded : ℕ → Option Operation
decoded w = kind (parts w)

-- the fields of an instruction; the numbers are those by which it is found
abbrev pub fields : Operation → Parts
fields (Set r k) = record { o = 1; r = r; a = 0; b = 0; k = k }
fields (Load r a k) = record { o = 2; r = r; a = a; b = 0; k = k }
fields (Store a k r) = record { o = 3; r = r; a = a; b = 0; k = k }
fields (Own r k) = record { o = 4; r = r; a = 0; b = 0; k = k }
fields (Add r a b) = record { o = 5; r = r; a = a; b = b; k = 0 }
fields (Sub r a b) = record { o = 6; r = r; a = a; b = b; k = 0 }
fields (Mul r a b) = record { o = 7; r = r; a = a; b = b; k = 0 }
fields (Less r a b) = record { o = 8; r = r; a = a; b = b; k = 0 }
fields (Same r a b) = record { o = 9; r = r; a = a; b = b; k = 0 }
fields (Move r a) = record { o = 10; r = r; a = a; b = 0; k = 0 }
fields (Jump k) = record { o = 11; r = 0; a = 0; b = 0; k = k }
fields (JumpIfZero r k) = record { o = 12; r = r; a = 0; b = 0; k = k }
fields (Call k) = record { o = 13; r = 0; a = 0; b = 0; k = k }
fields (CallRegister r) = record { o = 14; r = r; a = 0; b = 0; k = 0 }
fields Return = record { o = 15; r = 0; a = 0; b = 0; k = 0 }
fields (Push r) = record { o = 16; r = r; a = 0; b = 0; k = 0 }
fields (Pop r) = record { o = 17; r = r; a = 0; b = 0; k = 0 }
fields (Out r) = record { o = 18; r = r; a = 0; b = 0; k = 0 }
fields (In r) = record { o = 19; r = r; a = 0; b = 0; k = 0 }
fields (Open r k global) = record { o = 20; r = r; a = cond global 1 0; b = 0; k = k }
fields (Find r a k) = record { o = 21; r = r; a = a; b = 0; k = k }
fields (Close r) = record { o = 22; r = r; a = 0; b = 0; k = 0 }
fields (End r) = record { o = 23; r = r; a = 0; b = 0; k = 0 }

-- fields put together
unfoldable pub pack : Parts → ℕ
pack p = p.o + (256 * p.r + (65536 * p.a + (16777216 * p.b + 4294967296 * p.k)))

-- the word of an instruction
abbrev pub encoded : Operation → ℕ
encoded i = pack (fields i)

-- what an instruction does
abbrev pub acts : Processor → Operation → Did
acts c (Set r k) = sets c r k
acts c (Load r a k) = reg c a (λ x. word c ((x + k) % all) (sets c r))
acts c (Store a k r) = reg c a (λ x. reg c r (λ y. word c ((x + k) % all) (λ old. stores c ((x + k) % all) y)))
acts c (Own r k) = sets c r (there c k)
acts c (Add r a b) = computes c r a b (λ x y. x + y)
acts c (Sub r a b) = computes c r a b (λ x y. (x + all) - y)
acts c (Mul r a b) = computes c r a b (λ x y. x * y)
acts c (Less r a b) = computes c r a b (λ x y. bit (nat_lt x y))
acts c (Same r a b) = computes c r a b (λ x y. bit (x == y))
acts c (Move r a) = reg c a (sets c r)
acts c (Jump k) = goes c (there c k)
acts c (JumpIfZero r k) = reg c r (λ x. goes c (cond (x == 0) (there c k) (suc c.pc)))
acts c (Call k) = through c (there c k)
acts c (CallRegister r) = reg c r (calls c)
acts c Return = returns c c.backs
acts c (Push r) = reg c r (pushes c)
acts c (Pop r) = pops c r c.pushed
acts c (Out r) = reg c r (shows c)
acts c (In r) = reads c r
acts c (Open r k global) = word c (there c k) (λ x. asks c (event.Open x r global))
acts c (Find r a k) = word c (there c k) (λ x. asks c (event.Find r a x))
acts c (Close r) = asks c (event.Close r)
acts c (End r) = asks c (event.End r)

-- what a word does, once decoded; stuck where it is no instruction
abbrev pub act : Processor → Option Operation → Did
act c None = did c event.Stuck
act c (Some i) = acts c i
