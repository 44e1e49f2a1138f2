-- One line after the other: what each does to the tables, and that it is what the text says.
use Rattle.std.specs.Prelude.{None}
use Rattle.std.specs.Prelude.{Some, cond, is_some, is_ok, OnOk, IsErr, IsErrAnd, MatchResult}
use Rattle.std.proofs.Common.{◌≡◌, ℕ, zero, suc, ◌+◌, ◌<◌, ◌≤◌, Bool, true, false, ◌&&◌, ltb, List, [], ◌∷◌, ◌++◌, length, set, Ok, Err, Option, Result, sym, refl, ap, ◌∙◌, subst, arith}
use Rattle.std.proofs.lemmas.List.{length-map, length-set, map_push}
use Rattle.std.proofs.lemmas.Bool.{lt-ltb, and_from}
use Rattle.base.specs.Choices.{opt, on_ok}
use Rattle.base.specs.Names.{Name, same}
use Rattle.text.specs.Words.{cut, full, words_of}
use Rattle.text.specs.Readers.{bytes, pieces, words}
use Rattle.text.specs.declared.reader.Reader.{Reader}
use Rattle.text.specs.declared.reader.Span.{Span}
use Rattle.library.specs.Library.{Library, find_library}
use Rattle.library.specs.Keywords.{k_lib}
use Rattle.library.specs.Lines.{takes, a_word, end_line, Item, item_line}
use Rattle.library.specs.Text.{Progress, lib_words, lib_line, library_item, line, at_line_number, checked, sized, drafted, new_draft, bad}
use Rattle.library.specs.declared.faults.LineFault.TheVariants.{OutsideLibrary, DuplicateLibrary}
use Rattle.library.specs.declared.faults.BadLine.{BadLine}
use Rattle.lent.specs.Indexes.{bucket_of, Holds}
use Rattle.lent.specs.declared.index.Index.{Index}
use Rattle.lent.specs.declared.refusals.Full.{Full}
use Rattle.tables.specs.declared.tables.Tables.{Tables}
use Rattle.reading.specs.declared.parts.Parts.{Parts}
use Rattle.tables.specs.declared.draft.Draft.{Draft}
use Rattle.libraries.specs.Looks.{HasName}
use Rattle.tables.specs.Store.{store, library_from, draft_of, drafts, progress, libraries, Starts, Room, opened, buckets, Named}
use Rattle.tables.specs.Steps.{Put, Closed}
use Rattle.reading.specs.Steps.{Kept, Shut, Finished, Began, Itemed, Lined, takes_rows, mute}
use Rattle.tables.proofs.Looking.{count_is}

-- the index with one library more
named_more : (t u : Tables) (x y : Index) (d : Draft) (h : ℕ) → Named t x → Closed t u d → t.libs.len + 1 ≤ length x.heads.now → h ≡ bucket_of (library_from (store t) d).name (length x.heads.now) → length y.heads.now ≡ length x.heads.now → ((bs : List ℕ) → length bs ≡ t.libs.len → Holds x bs t.libs.len → Holds y (bs ++ h ∷ []) (t.libs.len + 1)) → Named u y
named_more t u x y d h n c l e p f =
    let ls = libraries t in
    let k = length x.heads.now in
    let b : buckets (length y.heads.now) (libraries u) ≡ buckets k ls ++ h ∷ [] = ap (λ m. buckets m (libraries u)) p ∙ ap (buckets k) c.done ∙ map_push (λ (z : Library). bucket_of z.name k) ls (library_from (store t) d) ∙ ap (λ z. buckets k ls ++ z ∷ []) (sym e) in
    let g = f (buckets k ls) (length-map ls (λ (z : Library). bucket_of z.name k) ∙ count_is t) n.holds in
    let P : List ℕ → Type 0 = λ bs. Holds y bs (t.libs.len + 1) in
    let Q : ℕ → Type 0 = λ m. Holds y (buckets (length y.heads.now) (libraries u)) m in
    record { holds = subst Q (sym c.count) (subst P (sym b) g); within = omega (arith, c.count) }

-- an error that is passed on
pub passed_on : {A E : Type 0} (r : Result A E) (P : A → Type 0) (Q : E → Type 0) (e : E) → IsErr r × IsErrAnd r (λ x. x ≡ e) → Q e → MatchResult r P Q
passed_on (Ok x) P Q e h q = absurd h.1
passed_on (Err x) P Q e h q = subst Q (sym h.1) q

on_ok_true : {E X : Type 0} (r : Result (Unit {0}) E) → is_ok r ≡ true → OnOk r X → X
on_ok_true (Ok x) e h = h
on_ok_true (Err x) e h = let z : ◌≡◌ {A = ℕ} 0 1 = cc in absurd (omega arith)

pub named_shut : (p : Parts) (u : Tables) (y : Index) (d : Draft) (x : Name) (h : ℕ) (r : Result (Unit {0}) Full) → Kept p (Some d) → Room p.tables 1 0 → Closed p.tables u d → x ≡ bytes p.tables.text.now d.name → h ≡ bucket_of x (length p.names.heads.now) → (0 < length p.names.heads.now → h < length p.names.heads.now) → is_ok r ≡ (ltb h (length p.names.heads.now) && ltb p.tables.libs.len (length p.names.next.now)) → y.heads.now ≡ cond (is_ok r) (set p.names.heads.now h (p.tables.libs.len + 1)) p.names.heads.now → OnOk r ((bs : List ℕ) → length bs ≡ p.tables.libs.len → Holds p.names bs p.tables.libs.len → Holds y (bs ++ h ∷ []) (p.tables.libs.len + 1)) → Named u y
unfolding library_from store
named_shut p u y d x h r k m c e f g v hs grown =
    let a : h < length p.names.heads.now = g (omega (arith, k.some, p.heads_wide)) in
    let b : p.tables.libs.len < length p.names.next.now = omega (arith, m.libs, p.next_wide) in
    let t : is_ok r ≡ true = v ∙ and_from _ _ (lt-ltb h _ a) (lt-ltb _ _ b) in
    let i = ap length (hs ∙ ap (λ z. cond z (set p.names.heads.now h (p.tables.libs.len + 1)) p.names.heads.now) t) ∙ length-set p.names.heads.now h (p.tables.libs.len + 1) in
    named_more p.tables u p.names y d h p.named c (omega (arith, m.libs, p.heads_wide)) (f ∙ ap (λ z. bucket_of z (length p.names.heads.now)) e) i (on_ok_true r t grown)

pub shut : (p q : Parts) (d : Draft) → Kept p (Some d) → Closed p.tables q.tables d → Shut p q d
shut p q d k c = record { text = c.text; rows = c.rows; kept = record { sound = c.sound; begun = tt; some = omega (arith, k.some, c.rows) }; done = c.done; room = c.room }

pub finish_some : (p q : Parts) (o : Option Draft) (d : Draft) → o ≡ Some d → checked (draft_of (store p.tables) d) ≡ Ok (library_from (store p.tables) d) → Shut p q d → Finished p q o
finish_some p q o d e c s = let P : Option Draft → Type 0 = Finished p q in subst P (sym e) (record { text = s.text; rows = s.rows; kept = s.kept; done = ap (λ r. on_ok r (λ l. Ok (libraries p.tables ++ (l ∷ [])))) c ∙ ap Ok (sym s.done); room = s.room })

-- a name that there is
has_found : (ls : List Library) (k : ℕ) (x : Name) → HasName ls k x → is_some (find_library ls x) ≡ true
has_found [] k x h = let z : ◌≡◌ {A = ℕ} 0 1 = cc in absurd (omega arith)
has_found (l ∷ ls) zero x h = ap (λ b. is_some (cond b (Some l) (find_library ls x))) h
has_found (l ∷ ls) (suc k) x h = go (same l.name x) (has_found ls k x h)
  where
    go : (b : Bool) → is_some (find_library ls x) ≡ true → is_some (cond b (Some l) (find_library ls x)) ≡ true
    go true e = refl
    go false e = e

pub name_taken : (ls : List Library) (ws us : List Name) (x y : Name) (k : ℕ) → takes a_word ws ≡ Ok (x, us) → y ≡ x → HasName ls k y → lib_words ls ws ≡ Err DuplicateLibrary
name_taken ls ws us x y k e f h = ap (λ r. on_ok r (λ p. cond (is_some (find_library ls p.0)) (Err DuplicateLibrary) (end_line p.0 p.1))) e ∙ ap (λ b. cond b (Err DuplicateLibrary) (end_line x us)) (ap (λ z. is_some (find_library ls z)) (sym f) ∙ has_found ls k y h)

-- a library begins
pub began : (p q : Parts) (n : ℕ) (o : Option Draft) (d : Draft) (x : Name) (ws : List Name) → Finished p q o → lib_words (libraries q.tables) ws ≡ Ok x → draft_of (store q.tables) d ≡ new_draft x → Starts (store q.tables) d → Began p q n o d ws
began p q n o d x ws f e g s = record {
  text = f.text;
  rows = f.rows;
  kept = record { sound = f.kept.sound; begun = s; some = f.kept.some };
  line = ap (λ r. on_ok r (λ ls. on_ok (at_line_number n (lib_words ls ws)) (λ y. Ok (record { done = ls; draft = Some (new_draft y) })))) f.done ∙ ap (λ r. on_ok (at_line_number n r) (λ y. Ok (record { done = libraries q.tables; draft = Some (new_draft y) }))) e ∙ ap (λ y. Ok (record { done = libraries q.tables; draft = Some y })) (sym g);
  room = λ m h. let r = f.room (m + 1) h in record { libs = omega arith; needs = omega arith; defs = omega arith; inits = omega arith; finis = omega arith; cells = omega arith };
}

pub itemed : (p q : Parts) (n : ℕ) (d r : Draft) (w : Name) (ws : List Name) (i j : Item) → Kept p (Some d) → item_line w ws ≡ Ok j → j ≡ i → Put p.tables q.tables n d r i → sized n (draft_of (store q.tables) r) ≡ Ok (draft_of (store q.tables) r) → Itemed p q n d r w ws
itemed p q n d r w ws i j k e f t z = record {
  text = t.text;
  rows = t.rows;
  kept = record { sound = t.sound; begun = t.starts; some = omega (arith, k.some, t.rows) };
  line = ap (λ v. on_ok (at_line_number n v) (λ i. on_ok (sized n (drafted n (draft_of (store p.tables) d) i)) (λ e. Ok (record { done = libraries p.tables; draft = Some e })))) (e ∙ ap Ok f) ∙ ap (λ v. on_ok v (λ e. Ok (record { done = libraries p.tables; draft = Some e }))) (ap (sized n) (sym t.draft) ∙ z) ∙ ap (λ ls. Ok (record { done = ls; draft = Some (draft_of (store q.tables) r) })) (sym t.done);
  room = t.room 1;
}

-- the words of a line: the first, and the others
pub words_new : (r : Reader) (t : List ℕ) (part : Span) → ((c : ℕ) → pieces c r ≡ cut c [] (bytes t part)) → words_of (bytes t part) ≡ words r
unfolding words
words_new r t part e = ap full (sym (e 32))

pub heads : (n r : Reader) (t : List ℕ) (part first : Span) (w : Name) → ((c : ℕ) → pieces c n ≡ cut c [] (bytes t part)) → words n ≡ bytes n.text.now first ∷ words r → r.text.now ≡ n.text.now → w ≡ bytes r.text.now first → words_of (bytes t part) ≡ w ∷ words r
heads n r t part first w e f g h = words_new n t part e ∙ f ∙ ap (λ x. x ∷ words r) (ap (λ x. bytes x first) (sym g) ∙ sym h)

-- a line by its first word
abbrev said : ℕ → Progress → Name → List Name → Result Progress BadLine
said n p w us = cond (same w k_lib) (lib_line n p us) (opt p.draft (Err (bad n OutsideLibrary)) (λ d. library_item n p d w us))

line_mute : (n : ℕ) (p : Progress) (w : Name) (us : List Name) → mute w ≡ true → line n p (w ∷ us) ≡ Ok p
line_mute n p [] us e = refl
line_mute n p (c ∷ cs) us e = ap (λ b. cond b (Ok p) (said n p (c ∷ cs) us)) e

line_said : (n : ℕ) (p : Progress) (w : Name) (us : List Name) → mute w ≡ false → line n p (w ∷ us) ≡ said n p w us
line_said n p [] us e = let z : ◌≡◌ {A = ℕ} 0 1 = cc in absurd (omega arith)
line_said n p (c ∷ cs) us e = ap (λ b. cond b (Ok p) (said n p (c ∷ cs) us)) e

line_lib : (n : ℕ) (p : Progress) (w : Name) (us ws : List Name) → ws ≡ w ∷ us → false ≡ mute w → true ≡ same w k_lib → line n p ws ≡ lib_line n p us
line_lib n p w us ws e f g = ap (line n p) e ∙ line_said n p w us (sym f) ∙ ap (λ b. cond b (lib_line n p us) (opt p.draft (Err (bad n OutsideLibrary)) (λ d. library_item n p d w us))) (sym g)

line_in : (n : ℕ) (p : Progress) (w : Name) (us ws : List Name) → ws ≡ w ∷ us → false ≡ mute w → false ≡ same w k_lib → line n p ws ≡ opt p.draft (Err (bad n OutsideLibrary)) (λ d. library_item n p d w us)
line_in n p w us ws e f g = ap (line n p) e ∙ line_said n p w us (sym f) ∙ ap (λ b. cond b (lib_line n p us) (opt p.draft (Err (bad n OutsideLibrary)) (λ d. library_item n p d w us))) (sym g)

pub room_less : (t : Tables) (o n m : ℕ) → m ≤ n → Room t o n → Room t o m
room_less t o n m l h = record { libs = omega arith; needs = omega arith; defs = omega arith; inits = omega arith; finis = omega arith; cells = omega arith }

skipped : (p : Parts) (n : ℕ) (o : Option Draft) (ws : List Name) → Kept p o → line n (progress (store p.tables) o) ws ≡ Ok (progress (store p.tables) o) → Lined p p n o o ws
skipped p n o ws k e = record { text = refl; rows = refl; kept = k; line = e; room = λ m h. room_less p.tables (opened o) (m + takes_rows ws) m (omega arith) h }

pub lined_none : (p : Parts) (n : ℕ) (o : Option Draft) (ws : List Name) → Kept p o → ws ≡ [] → Lined p p n o o ws
lined_none p n o ws k e = skipped p n o ws k (ap (line n (progress (store p.tables) o)) e)

pub lined_mute : (p : Parts) (n : ℕ) (o : Option Draft) (w : Name) (us ws : List Name) → Kept p o → ws ≡ w ∷ us → true ≡ mute w → Lined p p n o o ws
lined_mute p n o w us ws k e f = skipped p n o ws k (ap (line n (progress (store p.tables) o)) e ∙ line_mute n (progress (store p.tables) o) w us (sym f))

one_row : (w : Name) (us ws : List Name) → ws ≡ w ∷ us → takes_rows ws ≡ 1
one_row w us ws e = ap takes_rows e

pub room_one : (t : Tables) (o : ℕ) (w : Name) (us ws : List Name) → ws ≡ w ∷ us → Room t o (takes_rows ws) → Room t o 1
room_one t o w us ws e h = let P : ℕ → Type 0 = Room t o in subst P (one_row w us ws e) h

room_plus : (t : Tables) (o m : ℕ) (w : Name) (us ws : List Name) → ws ≡ w ∷ us → Room t o (m + takes_rows ws) → Room t o (m + 1)
room_plus t o m w us ws e h = let P : ℕ → Type 0 = λ k. Room t o (m + k) in subst P (one_row w us ws e) h

pub lined_lib : (p q : Parts) (n : ℕ) (o : Option Draft) (d : Draft) (w : Name) (us ws : List Name) → Began p q n o d us → ws ≡ w ∷ us → false ≡ mute w → true ≡ same w k_lib → Lined p q n o (Some d) ws
lined_lib p q n o d w us ws b e f g = record { text = b.text; rows = b.rows; kept = b.kept; line = line_lib n (progress (store p.tables) o) w us ws e f g ∙ b.line; room = λ m h. b.room m (room_plus p.tables (opened o) m w us ws e h) }

pub bad_lib : (p : Parts) (n : ℕ) (o : Option Draft) (w : Name) (us ws : List Name) (x : BadLine) → lib_line n (progress (store p.tables) o) us ≡ Err x → ws ≡ w ∷ us → false ≡ mute w → true ≡ same w k_lib → line n (progress (store p.tables) o) ws ≡ Err x
bad_lib p n o w us ws x b e f g = line_lib n (progress (store p.tables) o) w us ws e f g ∙ b

pub bad_outside : (p : Parts) (n : ℕ) (o : Option Draft) (w : Name) (us ws : List Name) → o ≡ None → ws ≡ w ∷ us → false ≡ mute w → false ≡ same w k_lib → line n (progress (store p.tables) o) ws ≡ Err (bad n OutsideLibrary)
bad_outside p n o w us ws h e f g = line_in n (progress (store p.tables) o) w us ws e f g ∙ ap (λ q. opt (drafts (store p.tables) q) (Err (bad n OutsideLibrary)) (λ d. library_item n (progress (store p.tables) o) d w us)) h

in_draft : (p : Parts) (n : ℕ) (o : Option Draft) (d : Draft) (w : Name) (us ws : List Name) → o ≡ Some d → ws ≡ w ∷ us → false ≡ mute w → false ≡ same w k_lib → line n (progress (store p.tables) o) ws ≡ library_item n (progress (store p.tables) (Some d)) (draft_of (store p.tables) d) w us
in_draft p n o d w us ws h e f g = line_in n (progress (store p.tables) o) w us ws e f g ∙ ap (λ q. opt (drafts (store p.tables) q) (Err (bad n OutsideLibrary)) (λ d. library_item n (progress (store p.tables) q) d w us)) h

pub bad_item : (p : Parts) (n : ℕ) (o : Option Draft) (d : Draft) (w : Name) (us ws : List Name) (x : BadLine) → o ≡ Some d → library_item n (progress (store p.tables) (Some d)) (draft_of (store p.tables) d) w us ≡ Err x → ws ≡ w ∷ us → false ≡ mute w → false ≡ same w k_lib → line n (progress (store p.tables) o) ws ≡ Err x
bad_item p n o d w us ws x h b e f g = in_draft p n o d w us ws h e f g ∙ b

pub lined_item : (p q : Parts) (n : ℕ) (o : Option Draft) (d r : Draft) (w : Name) (us ws : List Name) → o ≡ Some d → Itemed p q n d r w us → ws ≡ w ∷ us → false ≡ mute w → false ≡ same w k_lib → Lined p q n o (Some r) ws
lined_item p q n o d r w us ws h b e f g = record {
  text = b.text;
  rows = b.rows;
  kept = b.kept;
  line = in_draft p n o d w us ws h e f g ∙ b.line;
  room = λ m k. b.room m (let P : Option Draft → Type 0 = λ x. Room p.tables (opened x) (m + 1) in subst P h (room_plus p.tables (opened o) m w us ws e k));
}
