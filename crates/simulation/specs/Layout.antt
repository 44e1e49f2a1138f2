-- Where modules lie: places as addresses.
use Rattle.std.specs.List.{AllByRecursion}
use Rattle.std.specs.Prelude.{◌≡◌, ℕ, ◌+◌, ◌<◌, ◌≤◌, ◌⊎◌, List, length, ◌≢◌, slice_index, Some, slice_get}
use Rattle.library.specs.Fine.{LibraryFine}
use Rattle.links.specs.Links.{Place, Module}
use Rattle.links.specs.Scope.{live_at}
use Rattle.meaning.specs.State.{Value, num, place, Sequel, gives, drops, ends, stops, Frame, back, pending}
use Rattle.meaning.specs.Calls.{nowhere}
use Rattle.processor.specs.Cpu.{all, wide}

-- by module: the address of its first cell, and how many cells it has
pub record Layout : Type 0 where
  pub bases : List ℕ
  pub sizes : List ℕ

-- the address of the first cell of the module i
abbrev pub base_of : Layout → ℕ → ℕ
base_of k i = slice_index k.bases i

-- how many cells the module i has
abbrev pub size_of : Layout → ℕ → ℕ
size_of k i = slice_index k.sizes i

-- every module that ever was lies behind address 0, and with the word behind it within the memory of so many words
pub record Placed (k : Layout) (total : ℕ) : Type 0 where
  pub first : (i : ℕ) → i < length k.bases → 1 ≤ base_of k i
  pub last : (i : ℕ) → i < length k.bases → base_of k i + size_of k i < total
  pub few : total < wide
  pub even : length k.sizes ≡ length k.bases

-- live modules lie below the u words that are taken, and apart from each other, a word between
pub record Apart (k : Layout) (ms : List Module) (u : ℕ) : Type 0 where
  pub below : (i : ℕ) (x : Module) → live_at ms i ≡ Some x → base_of k i + size_of k i < u
  pub apart : (i j : ℕ) (x y : Module) → live_at ms i ≡ Some x → live_at ms j ≡ Some y → (i ≢ j) → (base_of k i + size_of k i < base_of k j) ⊎ (base_of k j + size_of k j < base_of k i)

-- the layout of the modules, of which the live ones are apart; u words are taken, of total
pub record Ground (k : Layout) (ms : List Module) (u total : ℕ) : Type 0 where
  pub placed : Placed k total
  pub apart : Apart k ms u
  pub one : 1 ≤ u
  pub room : u ≤ total
  pub count : length ms ≡ length k.bases
  pub sized : (i : ℕ) (x : Module) → slice_get ms i ≡ Some x → size_of k i ≡ length x.lib.cells
  pub fine : (i : ℕ) (x : Module) → slice_get ms i ≡ Some x → LibraryFine x.lib

-- a value as a word: a number itself, a place's address
abbrev pub addr : Layout → Value → ℕ
addr k (num n) = n
addr k (place i j) = base_of k i + j

-- the address of a place
abbrev pub addr_place : Layout → Place → ℕ
addr_place k p = base_of k p.host + p.cell

-- what the processor has to return to for a frame: an address, or 0 where calls are pending
abbrev pub addr_back : Layout → Frame → ℕ
addr_back k (back p) = addr_place k p
addr_back k (pending ps f) = 0

-- a place that a program can have: of a module that was loaded, at a cell below that of nowhere, since no ref leads so far behind
abbrev pub FitsPlace : Layout → Place → Type 0
FitsPlace k p = (p.host < length k.bases) × (p.cell < nowhere.cell)

-- a value that a program can have: a number of 64 bits, or such a place
abbrev pub Fits : Layout → Value → Type 0
Fits k (num n) = n < all
Fits k (place i j) = (i < length k.bases) × (j < nowhere.cell)

-- a sequel with such values and places, and a register that there is
abbrev pub FitsSequel : Layout → Sequel → Type 0
FitsSequel k (gives r v p) = (r < 8) × Fits k v × FitsPlace k p
FitsSequel k (drops js r p) = (r < 8) × FitsPlace k p
FitsSequel k (ends n) = n < all
FitsSequel k (stops n) = n < all

-- a frame with such places and sequels
abbrev pub FitsFrame : Layout → Frame → Type 0
FitsFrame k (back p) = FitsPlace k p
FitsFrame k (pending ps f) = AllByRecursion (FitsPlace k) ps × FitsSequel k f
