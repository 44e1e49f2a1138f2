-- What the types of the code stand for.
use Rattle.links.specs.Links as links
use Rattle.linkage.specs.declared.types.Place.{Place}

-- a place
abbrev pub place_of : Place → links.Place
place_of p = record { host = p.module; cell = p.cell }
