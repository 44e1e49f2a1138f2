-- Modules and groups: what is loaded, and what it is bound to. No contents of cells, no addresses.
use Rattle.std.specs.Prelude.{ℕ, Bool, List, length, Option}
use Rattle.library.specs.Library.{Library}

-- a place: a module and a cell of it
pub record Place : Type 0 where
  pub host : ℕ
  pub cell : ℕ

-- the cell k of the module i
abbrev pub place_at : ℕ → ℕ → Place
place_at i k = record { host = i; cell = k }

-- a library that was loaded: still there or gone; the group that loaded it; by cell, the place that a ref or a slot was settled to
pub record Module : Type 0 where
  pub lib : Library
  pub live : Bool
  pub group : ℕ
  pub bound : List (Option Place)

-- libraries that were opened together; global: their definitions are for every module
pub record Group : Type 0 where
  pub members : List ℕ
  pub opened : Bool
  pub global : Bool

-- all modules ever, all groups ever, modules in the order in which they are initialised, words taken
pub record Links : Type 0 where
  pub modules : List Module
  pub groups : List Group
  pub order : List ℕ
  pub used : ℕ

-- words there are, and words left free before each module
pub record Room : Type 0 where
  pub words : ℕ
  pub gap : ℕ

-- how many cells a module has
abbrev pub cells_in : Module → ℕ
cells_in x = length x.lib.cells

-- what names are looked up by
pub record Key : Type 0 where
  pub lib : Library
  pub live : Bool
  pub group : ℕ

-- the key of a module
abbrev pub key : Module → Key
key x = record { lib = x.lib; live = x.live; group = x.group }

-- other modules in the place of these
abbrev pub with_modules : Links → List Module → Links
with_modules k ms = record { modules = ms; groups = k.groups; order = k.order; used = k.used }
