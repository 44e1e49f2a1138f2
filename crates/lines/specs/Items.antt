-- What a line says, by the types of the code.
use Rattle.base.specs.Names.{Name}
use Rattle.library.specs.Lines as lines
use Rattle.library.specs.Views.{cell_no, definition_of, cell_of}
use Rattle.library.specs.declared.types.Item.{Item}
use Rattle.library.specs.declared.types.Item.TheVariants as item

-- an item; f: the bytes of a name
abbrev pub item_of : {N : Type 0} → (N → Name) → Item N → lines.Item
item_of f item.Inward = lines.inward
item_of f (item.Needs x) = lines.needs (f x)
item_of f (item.Define d) = lines.define (definition_of f d)
item_of f (item.Init k) = lines.init (cell_no k)
item_of f (item.Fini k) = lines.fini (cell_no k)
item_of f (item.Cell c) = lines.cell (cell_of f c)
