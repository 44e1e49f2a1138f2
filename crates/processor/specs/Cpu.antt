-- A processor with one row of words, which knows nothing of libraries.
use Rattle.std.specs.Prelude.{ℕ, suc, ◌+◌, ◌-◌, ◌*◌, ◌/◌, ◌%◌, Bool, List, [], ◌∷◌, ◌++◌, drop, replicate, ◌==◌, nat_lt, cond, slice_get, slice_set}
use Rattle.base.specs.Choices.{opt}
use Rattle.processor.specs.declared.Event.{Event}
use Rattle.processor.specs.declared.Event.TheVariants.{Continue, Home, Stuck, Bind, Open, Find, Close, End}

-- words at addresses from 0, eight registers, the address of the next instruction, addresses to return to and words pushed, newest first, what is left to read, and what was shown, oldest first
pub record Processor : Type 0 where
  pub words : List ℕ
  pub regs : List ℕ
  pub pc : ℕ
  pub backs : List ℕ
  pub pushed : List ℕ
  pub ins : List ℕ
  pub outs : List ℕ

-- the processor after a step, and the step's event
pub record Did : Type 0 where
  pub cpu : Processor
  pub event : Event

-- both together
abbrev pub did : Processor → Event → Did
did c e = record { cpu = c; event = e }

-- how many values a word has; what is shown where a number was read
abbrev pub all : ℕ
all = 18446744073709551616

-- how many values an instruction's number has, and how many addresses there may be
abbrev pub wide : ℕ
wide = 4294967296

-- other registers, and another address to go on at
abbrev pub with_regs : Processor → List ℕ → ℕ → Processor
with_regs c rs p = record { words = c.words; regs = rs; pc = p; backs = c.backs; pushed = c.pushed; ins = c.ins; outs = c.outs }

-- x modulo 2^64 into register r, and on; a register that there isn't takes nothing
abbrev pub sets : Processor → ℕ → ℕ → Did
sets c r x = did (with_regs c (slice_set c.regs r (x % all)) (suc c.pc)) Continue

-- f of what register r holds; stuck if there is no such register
abbrev pub reg : Processor → ℕ → (ℕ → Did) → Did
reg c r f = opt (slice_get c.regs r) (did c Stuck) f

-- f of the word at address a; stuck if there is no such word
abbrev pub word : Processor → ℕ → (ℕ → Did) → Did
word c a f = opt (slice_get c.words a) (did c Stuck) f

-- on, at address p
abbrev pub goes : Processor → ℕ → Did
goes c p = did (with_regs c c.regs p) Continue

-- the fields of an instruction word: its number in bits 0 to 7, then three registers of 8 bits each, and a number of 32 bits
pub record Parts : Type 0 where
  pub o : ℕ
  pub r : ℕ
  pub a : ℕ
  pub b : ℕ
  pub k : ℕ

-- a word, taken apart
abbrev pub parts : ℕ → Parts
parts w = record { o = w % 256; r = w / 256 % 256; a = w / 65536 % 256; b = w / 16777216 % 256; k = w / wide % wide }

-- the address k behind the instruction's own, modulo 2^32
abbrev pub there : Processor → ℕ → ℕ
there c k = (c.pc + k) % wide

-- f of registers a and b into register r
abbrev pub computes : Processor → ℕ → ℕ → ℕ → (ℕ → ℕ → ℕ) → Did
computes c r a b f = reg c a (λ x. reg c b (λ y. sets c r (f x y)))

-- the same, of a word's fields
abbrev pub two : Processor → Parts → (ℕ → ℕ → ℕ) → Did
two c p f = computes c p.r p.a p.b f

-- 1 for true, 0 for false
abbrev pub bit : Bool → ℕ
bit b = cond b 1 0

-- y into the word at address a, and on
abbrev pub stores : Processor → ℕ → ℕ → Did
stores c a y = did (record { words = slice_set c.words a y; regs = c.regs; pc = suc c.pc; backs = c.backs; pushed = c.pushed; ins = c.ins; outs = c.outs }) Continue

-- on at p, to return behind this instruction
abbrev pub calls : Processor → ℕ → Did
calls c p = did (record { words = c.words; regs = c.regs; pc = p; backs = suc c.pc ∷ c.backs; pushed = c.pushed; ins = c.ins; outs = c.outs }) Continue

-- a call of what the slot at address a holds; where that is 0, it must be bound first
abbrev pub through : Processor → ℕ → Did
through c a = word c a (λ x. cond (x == 0) (did c (Bind a)) (calls c x))

-- on at the newest address to return to; stuck if there is none
abbrev pub returns : Processor → List ℕ → Did
returns c [] = did c Stuck
returns c (p ∷ ps) = did (record { words = c.words; regs = c.regs; pc = p; backs = ps; pushed = c.pushed; ins = c.ins; outs = c.outs }) Continue

-- x pushed, and on
abbrev pub pushes : Processor → ℕ → Did
pushes c x = did (record { words = c.words; regs = c.regs; pc = suc c.pc; backs = c.backs; pushed = x ∷ c.pushed; ins = c.ins; outs = c.outs }) Continue

-- the newest word pushed into register r; stuck if there is none
abbrev pub pops : Processor → ℕ → List ℕ → Did
pops c r [] = did c Stuck
pops c r (x ∷ xs) = sets (record { words = c.words; regs = c.regs; pc = c.pc; backs = c.backs; pushed = xs; ins = c.ins; outs = c.outs }) r x

-- x shown, and on
abbrev pub shows : Processor → ℕ → Did
shows c x = did (record { words = c.words; regs = c.regs; pc = suc c.pc; backs = c.backs; pushed = c.pushed; ins = c.ins; outs = c.outs ++ (x ∷ []) }) Continue

-- the next number to read, modulo 2^64, or 0
abbrev pub first_in : List ℕ → ℕ
first_in [] = 0
first_in (n ∷ ns) = n % all

-- the next number into register r; that one was read is shown
abbrev pub reads : Processor → ℕ → Did
reads c r = sets (record { words = c.words; regs = c.regs; pc = c.pc; backs = c.backs; pushed = c.pushed; ins = drop 1 c.ins; outs = c.outs ++ (all ∷ []) }) r (first_in c.ins)

-- on, with an event for others to act on
abbrev pub asks : Processor → Event → Did
asks c e = did (with_regs c c.regs (suc c.pc)) e

-- what an instruction does, by its number; stuck for any other
abbrev pub does : Processor → Parts → Did
does c p =
    cond (p.o == 1) (sets c p.r p.k)
    (cond (p.o == 2) (reg c p.a (λ x. word c ((x + p.k) % all) (sets c p.r)))
    (cond (p.o == 3) (reg c p.a (λ x. reg c p.r (λ y. word c ((x + p.k) % all) (λ old. stores c ((x + p.k) % all) y))))
    (cond (p.o == 4) (sets c p.r (there c p.k))
    (cond (p.o == 5) (two c p (λ x y. x + y))
    (cond (p.o == 6) (two c p (λ x y. (x + all) - y))
    (cond (p.o == 7) (two c p (λ x y. x * y))
    (cond (p.o == 8) (two c p (λ x y. bit (nat_lt x y)))
    (cond (p.o == 9) (two c p (λ x y. bit (x == y)))
    (cond (p.o == 10) (reg c p.a (sets c p.r))
    (cond (p.o == 11) (goes c (there c p.k))
    (cond (p.o == 12) (reg c p.r (λ x. goes c (cond (x == 0) (there c p.k) (suc c.pc))))
    (cond (p.o == 13) (through c (there c p.k))
    (cond (p.o == 14) (reg c p.r (calls c))
    (cond (p.o == 15) (returns c c.backs)
    (cond (p.o == 16) (reg c p.r (pushes c))
    (cond (p.o == 17) (pops c p.r c.pushed)
    (cond (p.o == 18) (reg c p.r (shows c))
    (cond (p.o == 19) (reads c p.r)
    (cond (p.o == 20) (word c (there c p.k) (λ x. asks c (Open x p.r (p.a == 1))))
    (cond (p.o == 21) (word c (there c p.k) (λ x. asks c (Find p.r p.a x)))
    (cond (p.o == 22) (asks c (Close p.r))
    (cond (p.o == 23) (asks c (End p.r)) (did c Stuck)))))))))))))))))))))))

-- a step: home at address 0, else what the word says at which the processor is
abbrev pub step : Processor → Did
step c = cond (c.pc == 0) (did c Home) (word c c.pc (λ w. does c (parts w)))

-- x in the word at address a
abbrev pub poked : Processor → ℕ → ℕ → Processor
poked c a x = record { words = slice_set c.words a x; regs = c.regs; pc = c.pc; backs = c.backs; pushed = c.pushed; ins = c.ins; outs = c.outs }

-- x in register r
abbrev pub with_reg : Processor → ℕ → ℕ → Processor
with_reg c r x = with_regs c (slice_set c.regs r x) c.pc

-- about to go on at p, and to return to b
abbrev pub called : Processor → ℕ → ℕ → Processor
called c p b = record { words = c.words; regs = c.regs; pc = p; backs = b ∷ c.backs; pushed = c.pushed; ins = c.ins; outs = c.outs }

-- about to go on at p
abbrev pub gone : Processor → ℕ → Processor
gone c p = with_regs c c.regs p

-- as it is before the first step: registers 0, at address 0, nothing to return to, pushed or shown
abbrev pub fresh : List ℕ → List ℕ → Processor
fresh ws ins = record { words = ws; regs = replicate 8 0; pc = 0; backs = []; pushed = []; ins = ins; outs = [] }
