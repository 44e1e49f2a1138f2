-- The keywords of a text.
use Rattle.std.specs.Prelude.{codes}
use Rattle.base.specs.Names.{Name}

abbrev pub k_lib : Name
k_lib = codes "lib"

abbrev pub k_inward : Name
k_inward = codes "inward"

abbrev pub k_needs : Name
k_needs = codes "needs"

abbrev pub k_def : Name
k_def = codes "def"

abbrev pub k_init : Name
k_init = codes "init"

abbrev pub k_fini : Name
k_fini = codes "fini"

abbrev pub k_word : Name
k_word = codes "word"

abbrev pub k_ref : Name
k_ref = codes "ref"

abbrev pub k_at : Name
k_at = codes "at"

abbrev pub k_slot : Name
k_slot = codes "slot"

abbrev pub k_name : Name
k_name = codes "name"

abbrev pub k_all : Name
k_all = codes "all"

abbrev pub k_inner : Name
k_inner = codes "inner"

abbrev pub k_must : Name
k_must = codes "must"

abbrev pub k_may : Name
k_may = codes "may"

abbrev pub k_set : Name
k_set = codes "set"

abbrev pub k_get : Name
k_get = codes "get"

abbrev pub k_sto : Name
k_sto = codes "sto"

abbrev pub k_own : Name
k_own = codes "own"

abbrev pub k_add : Name
k_add = codes "add"

abbrev pub k_sub : Name
k_sub = codes "sub"

abbrev pub k_mul : Name
k_mul = codes "mul"

abbrev pub k_less : Name
k_less = codes "less"

abbrev pub k_same : Name
k_same = codes "same"

abbrev pub k_move : Name
k_move = codes "move"

abbrev pub k_jump : Name
k_jump = codes "jump"

abbrev pub k_if0 : Name
k_if0 = codes "if0"

abbrev pub k_call : Name
k_call = codes "call"

abbrev pub k_callr : Name
k_callr = codes "callr"

abbrev pub k_ret : Name
k_ret = codes "ret"

abbrev pub k_push : Name
k_push = codes "push"

abbrev pub k_pop : Name
k_pop = codes "pop"

abbrev pub k_out : Name
k_out = codes "out"

abbrev pub k_in : Name
k_in = codes "in"

abbrev pub k_open : Name
k_open = codes "open"

abbrev pub k_find : Name
k_find = codes "find"

abbrev pub k_close : Name
k_close = codes "close"

abbrev pub k_end : Name
k_end = codes "end"
