use Rattle.std.specs.Iterator.Adapters.{zip_first, zip_second}
use Rattle.std.specs.declared.ops.RangeFrom.{RangeFrom}
use Rattle.std.proofs.Common.{◌≡◌, ℕ, sym, ap, ◌∙◌, subst, ⊎_elim}
use Rattle.text.specs.declared.lines.Lines.{Lines}
use Rattle.text.specs.Readers.{pieces, size}
use Rattle.reading.proofs.Going.{Going, going_start, going_room, going_on, going_done, not_last}
use Rattle.reading.proofs.parts.Parts.lines.Goals as goal

pub loop-number-init : goal.loop-number-init
loop-number-init c =
    let e = c.into_iter-number-iterator.ensures.into_iter_gives in
    let l : zip_second c.into_iter-number-iterator.result ≡ c.new.result = ap zip_second e ∙ c.zip-number-items.ensures.second in
    going_start c.args.self.now (zip_first c.into_iter-number-iterator.result).start (zip_second c.into_iter-number-iterator.result).0 c.requires.blank c.requires.room
    (ap (λ (s : RangeFrom ℕ). s.start) (ap zip_first e ∙ c.zip-number-items.ensures.first))
    (ap (λ (l : Lines). pieces 10 l.0) l ∙ c.new.ensures.lines)
    (ap (λ (l : Lines). l.0.text.now) l ∙ c.new.ensures.text)
    (ap (λ (l : Lines). size l.0) l ∙ c.new.ensures.size)

pub line-requires-clause-room : goal.line-requires-clause-room
line-requires-clause-room c = going_room c.loop-number.self c.loop-number.held _ _ _ _ c.in-Some.part c.loop-number.invariant c.in-Some.ensures.steps.1

pub loop-number-preserved : goal.loop-number-preserved
loop-number-preserved c =
    let s = c.in-Some.ensures.steps in
    let g = subst (λ n. Going c.loop-number.self n c.loop-number.held (zip_second c.loop-number.number-iterator).0 c.args.self.now.tables.text.now) (sym s.0.0) c.loop-number.invariant in
    going_on c.loop-number.self c.line.new.self _ _ c.loop-number.held c.in_ok-held.held _ _ _ c.in-Some.part g s.1 c.in_ok-held.ensures s.0.1

pub returns : goal.returns
returns c = going_done c.loop-number.self c.finish.new.self _ c.loop-number.held _ _ c.finish.result c.loop-number.invariant (⊎_elim (λ p. absurd (not_last _ _ _ _ _ c.loop-number.invariant p.1.0)) (λ p. p.1.1.0) c.in-None.ensures.steps) c.finish.ensures
