use Rattle.std.proofs.Common.{◌≡◌, suc, Bool, eqb, [], ap, ◌∙◌}
use Rattle.std.specs.Prelude.{slice_index}
use Rattle.linkage.specs.Tables.{module_at}
use Rattle.linkage.specs.declared.types.Load.{Load}
use Rattle.linkage.specs.declared.types.Module.{Module}
use Rattle.linkage.proofs.Found.{made, one_more}
use Rattle.linkage.proofs.tables.Tables.module.Goals as goal

both : (l m : Load) (a b : Bool) → l ≡ m → a ≡ b → ◌≡◌ {A = Module} (record { load = l; live = a }) (record { load = m; live = b })
both l m a b e f = cc

pub returns : goal.returns
returns c =
    let i = c.args.i in
    let l = c.decode-load.ensures [] in
    made (module_at c.args.self.now i) c.in_ok-row.field-0.now _ _ c.in_ok-row.ensures.value
    (both _ _ _ _ l (c.eq.ensures ∙ one_more c.word.result i c.checked_sub.result c.checked_sub.ensures ∙ ap (λ w. eqb w (suc i)) (c.word.ensures ∙ ap (λ (x : Load). slice_index c.args.self.now.loaded.now x.library.0) l)))
