-- Line after line, up to the end of the text.
use Rattle.std.specs.Prelude.{None, Some, Ok, Err, Result, MatchResult}
use Rattle.std.proofs.Common.{◌≡◌, ℕ, suc, ◌+◌, ◌-◌, ◌/◌, ◌<◌, ◌≤◌, List, [], ◌∷◌, map, length, Option, sym, refl, ap, ◌∙◌, subst, arith}
use Rattle.std.specs.List.{AllByRecursion}
use Rattle.std.proofs.lemmas.Slice.{between_to_end}
use Rattle.base.specs.Choices.{on_ok}
use Rattle.base.specs.Names.{Name}
use Rattle.text.specs.Words.{cut, words_of, lines_of}
use Rattle.text.specs.Readers.{bytes, pieces, size, NextLine}
use Rattle.text.specs.declared.reader.Reader.{Reader}
use Rattle.text.specs.declared.reader.Span.{Span}
use Rattle.library.specs.Text.{line, lines, finished, nothing_read, read}
use Rattle.library.specs.declared.faults.BadLine.{BadLine}
use Rattle.lent.specs.Tables.{rows_of}
use Rattle.lent.proofs.Rows.{rows_none}
use Rattle.tables.specs.declared.tables.Tables.{Tables}
use Rattle.reading.specs.declared.parts.Parts.{Parts}
use Rattle.tables.specs.declared.draft.Draft.{Draft}
use Rattle.tables.specs.Store.{store, library_at, progress, libraries, Inside, Sound, Room, opened}
use Rattle.reading.specs.Steps.{Kept, Finished, Lined, takes_rows, Blank}
use Rattle.reading.proofs.Linewise.{room_less}

-- so far all went well: what is left of the text x gives what all of it gives
pub record Going (p : Parts) (n : ℕ) (o : Option Draft) (r : Reader) (x : Name) : Type 0 where
  pub text : p.tables.text.now ≡ x
  pub same : r.text.now ≡ x
  pub kept : Kept p o
  pub room : Room p.tables (opened o) (size r / 2)
  pub number : n + size r ≤ length x + 2
  pub short : length x < 2305843009213693952
  pub reads : lines n (progress (store p.tables) o) (map words_of (pieces 10 r)) ≡ read x

-- tables without libraries
pub no_rows : (t : Tables) → t.libs.len ≡ 0 → (store t).libs ≡ []
unfolding store
no_rows t e = ap (rows_of 13 t.libs.words.now) e ∙ rows_none 13 t.libs.words.now

pub no_libraries : (t : Tables) → t.libs.len ≡ 0 → libraries t ≡ []
no_libraries t e = ap (map (library_at (store t))) (no_rows t e)

pub sound_none : (t : Tables) → t.libs.len ≡ 0 → Sound (store t)
sound_none t e = let P : List (List ℕ) → Type 0 = AllByRecursion (Inside (store t)) in subst P (sym (no_rows t e)) tt

all_bytes : (x : Name) → bytes x (record { start = 0; end = length x }) ≡ x
all_bytes x = between_to_end x 0 (length x) (omega arith)

pub going_start : (p : Parts) (n : ℕ) (r : Reader) → Blank p → length p.tables.text.now / 2 < p.tables.rows → n ≡ 1 → pieces 10 r ≡ cut 10 [] (bytes p.tables.text.now (record { start = 0; end = length p.tables.text.now })) → r.text.now ≡ p.tables.text.now → size r ≡ suc (length (bytes p.tables.text.now (record { start = 0; end = length p.tables.text.now }))) → Going p n None r p.tables.text.now
unfolding read
going_start p n r b l o e g s =
    let z : size r ≡ suc (length p.tables.text.now) = s ∙ ap (λ w. suc (length w)) (all_bytes p.tables.text.now) in
    record {
      text = refl;
      same = g;
      kept = record { sound = sound_none p.tables b.libs; begun = tt; some = omega arith };
      room = record { libs = omega (arith, b.libs); needs = omega (arith, b.needs); defs = omega (arith, b.defs); inits = omega (arith, b.inits); finis = omega (arith, b.finis); cells = omega (arith, b.cells) };
      number = omega arith;
      short = omega (arith, b.small);
      reads = ap (λ m. lines m (progress (store p.tables) None) (map words_of (pieces 10 r))) o ∙ ap (λ ls. lines 1 (record { done = ls; draft = None }) (map words_of (pieces 10 r))) (no_libraries p.tables b.libs) ∙ ap (λ q. lines 1 nothing_read (map words_of q)) (e ∙ ap lines_of (all_bytes p.tables.text.now));
    }

few_rows : (l : Name) → takes_rows (words_of l) ≤ length l
few_rows [] = omega arith
few_rows (c ∷ l) = at_most (words_of (c ∷ l))
  where
    at_most : (ws : List Name) → takes_rows ws ≤ suc (length l)
    at_most [] = omega arith
    at_most (w ∷ ws) = omega arith

at_most_one : (ws : List Name) → takes_rows ws ≤ 1
at_most_one [] = omega arith
at_most_one (w ∷ ws) = omega arith

halves : (p : Parts) (o : Option Draft) (n : ℕ) (r q : Reader) (x : Name) (part : Span) → Going p n o r x → size q + suc (length (bytes r.text.now part)) ≤ size r → Room p.tables (opened o) (size q / 2 + takes_rows (words_of (bytes p.tables.text.now part)))
halves p o n r q x part g l =
    let e : bytes r.text.now part ≡ bytes p.tables.text.now part = ap (λ t. bytes t part) (g.same ∙ sym g.text) in
    let f = few_rows (bytes p.tables.text.now part) in
    let k = at_most_one (words_of (bytes p.tables.text.now part)) in
    let m : size q + suc (length (bytes p.tables.text.now part)) ≤ size r = (let P : Name → Type 0 = λ w. size q + suc (length w) ≤ size r in subst P e l) in
    room_less p.tables (opened o) (size r / 2) _ (omega arith) g.room

pub going_room : (p : Parts) (o : Option Draft) (n : ℕ) (r q : Reader) (x : Name) (part : Span) → Going p n o r x → NextLine r (Some part) q → Room p.tables (opened o) (takes_rows (words_of (bytes p.tables.text.now part)))
going_room p o n r q x part g l = room_less p.tables (opened o) _ _ (omega arith) (halves p o n r q x part g l.1.2)

-- the line that is read next
next_line : (p : Parts) (n : ℕ) (o : Option Draft) (r q : Reader) (x : Name) (part : Span) → Going p n o r x → pieces 10 r ≡ bytes r.text.now part ∷ pieces 10 q → on_ok (line n (progress (store p.tables) o) (words_of (bytes p.tables.text.now part))) (λ z. lines (suc n) z (map words_of (pieces 10 q))) ≡ read x
next_line p n o r q x part g e = ap (λ t. on_ok (line n (progress (store p.tables) o) (words_of (bytes t part))) (λ z. lines (suc n) z (map words_of (pieces 10 q)))) (g.text ∙ sym g.same) ∙ ap (λ ps. lines n (progress (store p.tables) o) (map words_of ps)) (sym e) ∙ g.reads

pub going_on : (p u : Parts) (n m : ℕ) (o s : Option Draft) (r q : Reader) (x : Name) (part : Span) → Going p n o r x → NextLine r (Some part) q → Lined p u n o s (words_of (bytes p.tables.text.now part)) → m ≡ n + 1 → Going u m s q x
going_on p u n m o s r q x part g l h w = let k = l.1.2 in record {
  text = h.text ∙ g.text;
  same = l.0 ∙ g.same;
  kept = h.kept;
  room = h.room (size q / 2) (halves p o n r q x part g k);
  number = omega (arith, g.number);
  short = g.short;
  reads = (let v : m ≡ suc n = omega arith in ap (λ k. lines k (progress (store u.tables) s) (map words_of (pieces 10 q))) v ∙ ap (λ y. on_ok y (λ z. lines (suc n) z (map words_of (pieces 10 q)))) (sym h.line) ∙ next_line p n o r q x part g l.1.1);
}

-- numbers of lines don't run out
pub not_last : (p : Parts) (n : ℕ) (o : Option Draft) (r : Reader) (x : Name) → Going p n o r x → 18446744073709551615 - n ≡ 0 → ⊥
not_last p n o r x g e = omega (arith, g.number, g.short)

all_read : (p : Parts) (n : ℕ) (o : Option Draft) (r : Reader) (x : Name) → Going p n o r x → pieces 10 r ≡ [] → read x ≡ finished (progress (store p.tables) o)
all_read p n o r x g e = sym g.reads ∙ ap (λ ps. lines n (progress (store p.tables) o) (map words_of ps)) e

-- behind the last line
pub going_done : (p u : Parts) (n : ℕ) (o : Option Draft) (r : Reader) (x : Name) (f : Result Unit BadLine) → Going p n o r x → pieces 10 r ≡ [] → MatchResult f (λ _. Finished p u o) (λ e. finished (progress (store p.tables) o) ≡ Err e) → MatchResult f (λ _. read x ≡ Ok (libraries u.tables)) (λ e. read x ≡ Err e)
going_done p u n o r x (Ok t) g e h = all_read p n o r x g e ∙ h.done
going_done p u n o r x (Err b) g e h = all_read p n o r x g e ∙ h
