use Rattle.std.proofs.Common.{◌≡◌, length, sym, ap, ◌∙◌, arith}
use Rattle.std.proofs.lemmas.List.{length-take-le}
use Rattle.lent.specs.Numbers.{numbers, limit}
use Rattle.lent.specs.Tables.{rows_in}
use Rattle.lent.proofs.Rows.{rows_len}
use Rattle.linkage.specs.Tables.{links_of, module_of}
use Rattle.linkage.specs.declared.tables.Tables.{Tables}
use Rattle.library.specs.Library.{Library}
use Rattle.std.proofs.Common.{List}
use Rattle.closes.specs.Staying.{gathered, bound_of_one}
use Rattle.closes.proofs.Growing.{grows_first, grows_on, grows_last}
use Rattle.closes.proofs.Rows.{length-numbered}
use Rattle.closes.proofs.staying.retained.Goals as goal

modules_count : (ls : List Library) (t : Tables) → t.modules.len ≡ length (links_of ls t).modules
modules_count ls t = sym (length-numbered (module_of ls t) 0 (rows_in 3 t.modules) ∙ rows_len 3 t.modules.words.now t.modules.len)

pub loop-kept-init : goal.loop-kept-init
loop-kept-init g c =
    let ls = g.L.Libraries.libs c.args.libraries.now in
    let limit : limit c.new-stays.result ≡ c.args.tables.now.modules.len = omega (arith, c.new-stays.ensures.limit, c.if-words-count.false, c.if-marks-count.false, length-take-le c.args.tables.now.modules.len c.args.marks.now c.if-marks-count.false) in
    record {
      grows = grows_first (links_of ls c.args.tables.now) _ _ (numbers c.new-stays.result) _ (limit ∙ modules_count ls c.args.tables.now) ((c.keep_open.ensures ls).taken ∙ c.new-stays.ensures.taken) c.new-stays.ensures.numbers (c.keep_open.ensures ls).numbers;
      limit = (c.keep_open.ensures ls).limit ∙ limit;
    }

pub loop-kept-preserved : goal.loop-kept-preserved
loop-kept-preserved g c =
    let ls = g.L.Libraries.libs c.args.libraries.now in
    let k = links_of ls c.args.tables.now in
    let same : limit c.take.new.self ≡ limit c.loop-kept.stays = c.in-Some.ensures.limit in
    record {
      grows = grows_on k (limit c.take.new.self) c.loop-kept.stays.taken _ c.in-Some.kept (numbers c.loop-kept.stays) _
          (same ∙ c.loop-kept.invariant.limit ∙ modules_count ls c.args.tables.now)
          (c.keep_bound.ensures.taken ∙ c.in-Some.ensures.taken)
          (omega (arith, c.in-Some.ensures.below.0, same))
          (sym c.in-Some.ensures.value)
          (c.keep_bound.ensures.numbers ∙ ap (gathered (limit c.take.new.self) (bound_of_one k.modules c.in-Some.kept)) c.in-Some.ensures.numbers)
          c.loop-kept.invariant.grows;
      limit = c.keep_bound.ensures.limit ∙ same ∙ c.loop-kept.invariant.limit;
    }

pub returns-clause-stays : goal.returns-clause-stays
returns-clause-stays g c =
    let ls = g.L.Libraries.libs c.args.libraries.now in
    let k = links_of ls c.args.tables.now in
    λ j l. ap (λ xs. Rattle.base.specs.Lists.has j xs) c.in_default.ensures.numbers ∙ grows_last k c.loop-kept.stays.taken (numbers c.loop-kept.stays) (sym c.in_default.ensures.value) c.loop-kept.invariant.grows j l
