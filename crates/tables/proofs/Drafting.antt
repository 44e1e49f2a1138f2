-- Drafts: an item more, one that begins, one that is done.
use Rattle.std.specs.Prelude.{cond}
use Rattle.std.proofs.Common.{◌≡◌, ℕ, ◌+◌, ◌-◌, ◌≤◌, Bool, true, false, ltb, leb, List, [], ◌∷◌, ◌++◌, length, Ok, Err, sym, refl, ap, ◌∙◌, subst, arith}
use mir.Val.{bool_byte}
use Rattle.std.proofs.lemmas.List.{length-drop, drop_all}
use Rattle.std.proofs.lemmas.Slice.{between_to_end}
use Rattle.std.proofs.lemmas.Bool.{le-ltb, le-leb, lt-leb}
use Rattle.text.specs.Readers.{bytes}
use Rattle.text.specs.declared.reader.Span.{Span}
use Rattle.library.specs.Library.{Library}
use Rattle.library.specs.Lines.{Item, inward}
use Rattle.library.specs.Text.{apply, drafted, item_reach, new_draft, checked, sized, bad}
use Rattle.library.specs.declared.faults.LineFault.TheVariants.{TooManyCells, NoSuchCell}
use Rattle.rows.specs.Rows.{cell_at}
use Rattle.rows.proofs.Back.{bit_back}
use Rattle.tables.specs.declared.tables.Tables.{Tables}
use Rattle.tables.specs.declared.draft.Draft.{Draft}
use Rattle.tables.specs.Store.{Store, store, library_at, library_from, done, draft_of, Inside, Sound, Starts}
use Rattle.tables.specs.Steps.{Ext, Took, Put, raise}
use Rattle.tables.proofs.Pushes.{rows_count}
use Rattle.tables.proofs.Laws.{library_kept, inside_kept, done_kept, sound_kept, done_push, sound_push, starts_on}

-- a draft with its reach raised
raised_draft : (s u : Store) (n : ℕ) (o : Draft) (i : Item) → library_from u o ≡ apply (library_from s o) i → draft_of u (raise o n (item_reach i)) ≡ drafted n (draft_of s o) i
unfolding library_from
raised_draft s u n o i e = go (ltb o.top (item_reach i))
  where
    go : (b : Bool) → draft_of u (cond b (record { name = o.name; inward = o.inward; needs = o.needs; defs = o.defs; inits = o.inits; finis = o.finis; cells = o.cells; top = item_reach i; line = n }) o) ≡ cond b (record { library = apply (library_from s o) i; top = item_reach i; top_line = n }) (record { library = apply (library_from s o) i; top = o.top; top_line = o.line })
    go true = ap (λ (l : Library). record { library = l; top = item_reach i; top_line = n }) e
    go false = ap (λ (l : Library). record { library = l; top = o.top; top_line = o.line }) e

raised_starts : (s : Store) (n r : ℕ) (o : Draft) → Starts s o → Starts s (raise o n r)
raised_starts s n r o h = go (ltb o.top r)
  where
    go : (b : Bool) → Starts s (cond b (record { name = o.name; inward = o.inward; needs = o.needs; defs = o.defs; inits = o.inits; finis = o.finis; cells = o.cells; top = r; line = n }) o)
    go true = record { needs = h.needs; defs = h.defs; inits = h.inits; finis = h.finis; cells = h.cells }
    go false = h

took_put : (t u : Tables) (n : ℕ) (o : Draft) (i : Item) → Took t u i → Sound (store t) → Starts (store t) o → Put t u n o (raise o n (item_reach i)) i
took_put t u n o i k h g = record {
  text = k.text;
  rows = k.rows;
  done = done_kept _ _ k.ext k.libs h;
  count = k.count;
  sound = sound_kept _ _ k.ext k.libs h;
  draft = raised_draft (store t) (store u) n o i (k.item o g);
  starts = raised_starts (store u) n (item_reach i) o (starts_on (store t) (store u) o k.ext g);
  room = k.room;
}

pub put_took : (t u : Tables) (n : ℕ) (o r : Draft) (j i : Item) (m : ℕ) → j ≡ i → Took t u i → Sound (store t) → Starts (store t) o → r ≡ raise o n m → m ≡ item_reach j → Put t u n o r j
put_took t u n o r j i m q k h g e f =
    let P : Draft → Type 0 = λ x. Put t u n o x i in
    let Q : Item → Type 0 = λ x. Put t u n o r x in
    subst Q (sym q) (subst P (sym (e ∙ ap (raise o n) (f ∙ ap item_reach q))) (took_put t u n o i k h g))

-- a draft of a library that looks in itself first, with a line that reaches nowhere
abbrev pub turn : Draft → Draft
turn o = record { name = o.name; inward = true; needs = o.needs; defs = o.defs; inits = o.inits; finis = o.finis; cells = o.cells; top = o.top; line = o.line }

turned_draft : (s : Store) (n : ℕ) (o : Draft) → draft_of s (turn o) ≡ drafted n (draft_of s o) inward
unfolding library_from
turned_draft s n o = let e = le-ltb o.top 0 (omega arith) in rw e refl

unraised : (n : ℕ) (o : Draft) → raise o n 0 ≡ o
unraised n o = let e = le-ltb o.top 0 (omega arith) in rw e refl

turned : (t : Tables) (n : ℕ) (o : Draft) → Sound (store t) → Starts (store t) o → Put t t n o (turn o) inward
turned t n o h g = record {
  text = refl;
  rows = refl;
  done = refl;
  count = refl;
  sound = h;
  draft = turned_draft (store t) n o;
  starts = record { needs = g.needs; defs = g.defs; inits = g.inits; finis = g.finis; cells = g.cells };
  room = λ k m r. record { libs = omega arith; needs = omega arith; defs = omega arith; inits = omega arith; finis = omega arith; cells = omega arith };
}

pub put_turned : (t : Tables) (n : ℕ) (o r : Draft) (j : Item) (m : ℕ) → j ≡ inward → Sound (store t) → Starts (store t) o → r ≡ raise o n m → m ≡ item_reach j → Put t t n o (turn r) j
put_turned t n o r j m q h g e f =
    let P : Draft → Type 0 = λ x. Put t t n o (turn x) inward in
    let Q : Item → Type 0 = λ x. Put t t n o (turn r) x in
    subst Q (sym q) (subst P (sym (e ∙ ap (raise o n) (f ∙ ap item_reach q) ∙ unraised n o)) (turned t n o h g))

pub cells_counted : (t : Tables) → length (store t).cells ≡ t.cells.len
unfolding store
cells_counted t = rows_count (cell_at t.text.now) 6 t.cells.words.now t.cells.len

-- how many cells a draft has
cell_count : (s : Store) (o : Draft) (n k : ℕ) → length s.cells ≡ n → k ≡ n - o.cells → length (library_from s o).cells ≡ k
unfolding library_from
cell_count s o n k e f = length-drop o.cells s.cells ∙ ap (λ m. m - o.cells) e ∙ sym f

pub sized_ok : (s : Store) (o : Draft) (l n k : ℕ) → length s.cells ≡ n → k ≡ n - o.cells → k ≤ 65535 → sized l (draft_of s o) ≡ Ok (draft_of s o)
sized_ok s o l n k e f h = ap (λ b. cond b (Ok (draft_of s o)) (Err (bad l TooManyCells))) (ap (λ m. leb m 65535) (cell_count s o n k e f) ∙ le-leb k 65535 h)

pub sized_err : (s : Store) (o : Draft) (l n k : ℕ) → length s.cells ≡ n → k ≡ n - o.cells → 65535 + 1 ≤ k → sized l (draft_of s o) ≡ Err (bad l TooManyCells)
sized_err s o l n k e f h = ap (λ b. cond b (Ok (draft_of s o)) (Err (bad l TooManyCells))) (ap (λ m. leb m 65535) (cell_count s o n k e f) ∙ lt-leb k 65535 (omega arith))

pub checked_ok : (s : Store) (o : Draft) (n k : ℕ) → length s.cells ≡ n → k ≡ n - o.cells → o.top ≤ k → checked (draft_of s o) ≡ Ok (library_from s o)
checked_ok s o n k e f h = ap (λ b. cond b (Ok (library_from s o)) (Err (bad o.line NoSuchCell))) (ap (leb o.top) (cell_count s o n k e f) ∙ le-leb o.top k h)

pub checked_err : (s : Store) (o : Draft) (n k : ℕ) → length s.cells ≡ n → k ≡ n - o.cells → k + 1 ≤ o.top → checked (draft_of s o) ≡ Err (bad o.line NoSuchCell)
checked_err s o n k e f h = ap (λ b. cond b (Ok (library_from s o)) (Err (bad o.line NoSuchCell))) (ap (leb o.top) (cell_count s o n k e f) ∙ lt-leb o.top k (omega arith))

-- a library that begins
abbrev pub fresh : Store → Span → Draft
fresh s x = record { name = x; inward = false; needs = length s.needs; defs = length s.defs; inits = length s.inits; finis = length s.finis; cells = length s.cells; top = 0; line = 0 }

pub fresh_draft : (s : Store) (x : Span) → draft_of s (fresh s x) ≡ new_draft (bytes s.text x)
unfolding library_from
fresh_draft s x =
    let a = drop_all (length s.needs) s.needs (omega arith) in
    let b = drop_all (length s.defs) s.defs (omega arith) in
    let c = drop_all (length s.inits) s.inits (omega arith) in
    let d = drop_all (length s.finis) s.finis (omega arith) in
    let e = drop_all (length s.cells) s.cells (omega arith) in
    rw (a, b, c, d, e) refl

pub fresh_starts : (s : Store) (x : Span) → Starts s (fresh s x)
fresh_starts s x = record { needs = omega arith; defs = omega arith; inits = omega arith; finis = omega arith; cells = omega arith }

pub fresh_is : (s : Store) (x : Span) (a b c d e : ℕ) → length s.needs ≡ a → length s.defs ≡ b → length s.inits ≡ c → length s.finis ≡ d → length s.cells ≡ e → fresh s x ≡ record { name = x; inward = false; needs = a; defs = b; inits = c; finis = d; cells = e; top = 0; line = 0 }
fresh_is s x a b c d e p q r u v = rw (p, q, r, u, v) refl

-- a library that is done
abbrev pub library_row : Draft → ℕ → ℕ → ℕ → ℕ → ℕ → ℕ → List ℕ
library_row o w a b c d e = o.name.start ∷ o.name.end ∷ w ∷ o.needs ∷ a ∷ o.defs ∷ b ∷ o.inits ∷ c ∷ o.finis ∷ d ∷ o.cells ∷ e ∷ []

close_library : (s : Store) (o : Draft) (w a b c d e : ℕ) → w ≡ bool_byte o.inward → length s.needs ≡ a → length s.defs ≡ b → length s.inits ≡ c → length s.finis ≡ d → length s.cells ≡ e → library_at s (library_row o w a b c d e) ≡ library_from s o
unfolding library_at library_from
close_library s o w a b c d e h p q r u v =
    let i = between_to_end s.needs o.needs a (omega arith) in
    let j = between_to_end s.defs o.defs b (omega arith) in
    let k = between_to_end s.inits o.inits c (omega arith) in
    let l = between_to_end s.finis o.finis d (omega arith) in
    let m = between_to_end s.cells o.cells e (omega arith) in
    let n = bit_back o.inward in
    rw (h, i, j, k, l, m, n) refl

pub close_law : (s u : Store) (o : Draft) (w a b c d e : ℕ) → Ext s u → u.libs ≡ s.libs ++ library_row o w a b c d e ∷ [] → w ≡ bool_byte o.inward → length s.needs ≡ a → length s.defs ≡ b → length s.inits ≡ c → length s.finis ≡ d → length s.cells ≡ e → Sound s → (done u ≡ done s ++ library_from s o ∷ []) × Sound u
close_law s u o w a b c d e x l h p q r t v k =
    let f = close_library s o w a b c d e h p q r t v in
    let i : Inside s (library_row o w a b c d e) = record { needs = omega arith; defs = omega arith; inits = omega arith; finis = omega arith; cells = omega arith } in
    (done_push s u (library_row o w a b c d e) (library_from s o) x l (library_kept s u (library_row o w a b c d e) x i ∙ f) k, sound_push s u (library_row o w a b c d e) x l (inside_kept s u (library_row o w a b c d e) x i) k)
