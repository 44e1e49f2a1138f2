-- What a queue in a list of words holds.
use Rattle.std.specs.Prelude.{ℕ, List}
use Rattle.lent.specs.declared.queue.Queue.{Queue}
use Rattle.std.specs.List.{between}

-- the words of a queue that are still to come, the first to go in front
abbrev pub items : Queue → List ℕ
items q = between q.head q.tail q.words.now
