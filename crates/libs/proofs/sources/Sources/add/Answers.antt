use Rattle.std.proofs.Common.{[], ◌∷◌, vec_items}
use Rattle.std.proofs.lemmas.List.{append_assoc}
use Rattle.libs.proofs.sources.Sources.add.Goals as goal

pub returns : goal.returns
returns c =
    let file = c.in_ok-extend_from_slice.ensures.items in
    let end = c.in_ok-push.ensures.items in
    let count = c.in_ok-push-2.ensures.items in
    let lines = c.lines.ensures in
    let three = append_assoc (vec_items c.args.self.now.text) c.args.file.now (10 ∷ []) in
    record { text = cc; counts = cc }
