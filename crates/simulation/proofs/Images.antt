-- Images as they are laid down, and the cells and words of new modules, one by one.
use Rattle.std.proofs.lemmas.Option.{slice_get_within, same_Some}
use Rattle.std.specs.Prelude.{Option, Some, cond, slice_get}
use Rattle.std.proofs.Common.{◌≡◌, ℕ, zero, suc, ◌+◌, ◌<◌, ◌≤◌, Bool, true, false, ◌⊎◌, List, [], ◌∷◌, ◌++◌, map, length, sym, refl, ap, ◌∙◌, subst₂, inl, inr, ⊎_elim, append_assoc, arith}
use Rattle.std.proofs.lemmas.List.{length_push}
use Rattle.base.specs.Choices.{opt}
use Rattle.base.specs.Names.{Name, same}
use Rattle.base.proofs.Lists.{slice_get_right}
use Rattle.base.proofs.Names.{same_is}
use Rattle.library.specs.Library.{Cell, Library, find_library}
use Rattle.links.specs.Links.{Module, Links, cells_in}
use Rattle.links.specs.Laws.{up_from, Rising}
use Rattle.meaning.specs.State.{Held, first_held, first_helds, new_cells}
use Rattle.processor.specs.Laid.{laid}
use Rattle.processor.proofs.Laying.{laid_length, laid_below, laid_at}
use Rattle.image.specs.Words.{first_word, first_words}
use Rattle.simulation.specs.Layout.{Layout}
use Rattle.simulation.specs.Images.{image, images, laid_all}
use Rattle.simulation.proofs.Grown.{rising_grows}

pub slice_get_front : {A : Type 0} (xs ys : List A) (i : ℕ) (y : A) → i < length xs → slice_get (xs ++ ys) i ≡ Some y → slice_get xs i ≡ Some y
slice_get_front [] ys i y h e = absurd (omega arith)
slice_get_front (x ∷ xs) ys zero y h e = e
slice_get_front (x ∷ xs) ys (suc i) y h e = slice_get_front xs ys i y (omega arith) e

pub starts_long : (u : ℕ) (bs zs : List ℕ) (e : ℕ) → Rising u bs zs e → length bs ≡ length zs
starts_long u [] [] e r = refl
starts_long u [] (z ∷ zs) e r = absurd r
starts_long u (b ∷ bs) [] e r = absurd r
starts_long u (b ∷ bs) (z ∷ zs) e r = ap suc (starts_long (suc (b + z)) bs zs e r.1)

-- words below all starts stay; words of an image stay as they were laid
pub laid_all_length : (ws bs : List ℕ) (ims : List (List ℕ)) → length (laid_all ws bs ims) ≡ length ws
laid_all_length ws [] ims = refl
laid_all_length ws (b ∷ bs) [] = refl
laid_all_length ws (b ∷ bs) (im ∷ ims) = laid_all_length (laid ws b im) bs ims ∙ laid_length ws b im

pub laid_all_below : (ws bs : List ℕ) (ims : List (List ℕ)) (u e a : ℕ) → Rising u bs (map length ims) e → a < u → slice_get (laid_all ws bs ims) a ≡ slice_get ws a
laid_all_below ws [] ims u e a r h = refl
laid_all_below ws (b ∷ bs) [] u e a r h = refl
laid_all_below ws (b ∷ bs) (im ∷ ims) u e a r h = laid_all_below (laid ws b im) bs ims (suc (b + length im)) e a r.1 (omega (arith, r.0)) ∙ laid_below ws b im a (omega (arith, r.0))

pub laid_all_at : (ws bs : List ℕ) (ims : List (List ℕ)) (u e d b : ℕ) (im : List ℕ) (j w : ℕ) → Rising u bs (map length ims) e → e ≤ length ws → slice_get bs d ≡ Some b → slice_get ims d ≡ Some im → slice_get im j ≡ Some w → slice_get (laid_all ws bs ims) (b + j) ≡ Some w
laid_all_at ws [] ims u e d b im j w r h p q s = let z : ◌≡◌ {A = ℕ} 0 1 = cc in absurd (omega arith)
laid_all_at ws (c ∷ bs) [] u e d b im j w r h p q s = absurd r
laid_all_at ws (c ∷ bs) (jm ∷ ims) u e zero b im j w r h p q s = let l = slice_get_within im j w s in let x : c ≡ b = cc in let y : jm ≡ im = cc in let t : length jm ≡ length im = ap length y in laid_all_below (laid ws c jm) bs ims (suc (c + length jm)) e (b + j) r.1 (omega arith) ∙ subst₂ (λ a i. slice_get (laid ws a i) (b + j) ≡ Some w) (sym x) (sym y) (laid_at ws b im j w (omega (arith, h, rising_grows (suc (c + length jm)) bs (map length ims) e r.1)) s)
laid_all_at ws (c ∷ bs) (jm ∷ ims) u e (suc d) b im j w r h p q s = laid_all_at (laid ws c jm) bs ims (suc (c + length jm)) e d b im j w r.1 (omega (arith, h, laid_length ws c jm)) p q s

-- cells and words of a new module, one by one
pub slice_get_first : (ks : Links) (me : ℕ) (cs : List Cell) (j : ℕ) (h : Held) → slice_get (first_helds ks me cs) j ≡ Some h → (c : Cell) × (slice_get cs j ≡ Some c) × (first_held ks me c ≡ h)
slice_get_first ks me [] j h e = let z : ◌≡◌ {A = ℕ} 0 1 = cc in absurd (omega arith)
slice_get_first ks me (c ∷ cs) zero h e = (c, refl, cc)
slice_get_first ks me (c ∷ cs) (suc j) h e = slice_get_first ks me cs j h e

pub length_first : (ks : Links) (me : ℕ) (cs : List Cell) → length (first_helds ks me cs) ≡ length cs
length_first ks me [] = refl
length_first ks me (c ∷ cs) = ap suc (length_first ks me cs)

pub slice_get_words : (to : Cell → Option ℕ) (b f a : ℕ) (cs : List Cell) (j : ℕ) (c : Cell) → slice_get cs j ≡ Some c → slice_get (first_words to b f a cs) j ≡ Some (first_word (to c) b (f + (a + j)) (a + j) c)
slice_get_words to b f a [] j c e = let z : ◌≡◌ {A = ℕ} 0 1 = cc in absurd (omega arith)
slice_get_words to b f a (y ∷ cs) zero c e = let q : a + 0 ≡ a = omega arith in let p : y ≡ c = cc in rw q (ap (λ z. Some (first_word (to z) b (f + a) a z)) p)
slice_get_words to b f a (y ∷ cs) (suc j) c e = let q : a + suc j ≡ suc a + j = omega arith in rw q (slice_get_words to b f (suc a) cs j c e)

length_words : (to : Cell → Option ℕ) (b f a : ℕ) (cs : List Cell) → length (first_words to b f a cs) ≡ length cs
length_words to b f a [] = refl
length_words to b f a (c ∷ cs) = ap suc (length_words to b f (suc a) cs)

-- the numbers of new modules
pub slice_get_new : (ks : Links) (a n d : ℕ) (hs : List Held) → slice_get (new_cells ks (up_from a n)) d ≡ Some hs → hs ≡ opt (slice_get ks.modules (a + d)) [] (λ x. first_helds ks (a + d) x.lib.cells)
slice_get_new ks a zero d hs e = let z : ◌≡◌ {A = ℕ} 0 1 = cc in absurd (omega arith)
slice_get_new ks a (suc n) zero hs e = let q : a + 0 ≡ a = omega arith in rw q (sym (same_Some _ _ e))
slice_get_new ks a (suc n) (suc d) hs e = let q : a + suc d ≡ suc a + d = omega arith in rw q (slice_get_new ks (suc a) n d hs e)

pub length_new : (ks : Links) (a n : ℕ) → length (new_cells ks (up_from a n)) ≡ n
length_new ks a zero = refl
length_new ks a (suc n) = ap suc (length_new ks (suc a) n)

pub slice_get_images : (ls : List Library) (k : Layout) (ks : Links) (a n d : ℕ) (x : Module) → d < n → slice_get ks.modules (a + d) ≡ Some x → slice_get (images ls k ks (up_from a n)) d ≡ Some (image ls k ks (a + d) x)
slice_get_images ls k ks a zero d x h e = absurd (omega arith)
slice_get_images ls k ks a (suc n) zero x h e = let q : a + 0 ≡ a = omega arith in rw q (ap (λ o. Some (opt o [] (image ls k ks a))) (ap (slice_get ks.modules) (sym q) ∙ e))
slice_get_images ls k ks a (suc n) (suc d) x h e = let q : a + suc d ≡ suc a + d = omega arith in rw q (slice_get_images ls k ks (suc a) n d x (omega arith) (ap (slice_get ks.modules) (sym q) ∙ e))

-- images are as long as the modules' cells
pub images_long : (ls : List Library) (k : Layout) (ks : Links) (ms fresh : List Module) → ks.modules ≡ ms ++ fresh → (a : ℕ) → length ms ≡ a → map length (images ls k ks (up_from a (length fresh))) ≡ map cells_in fresh
images_long ls k ks ms [] e a h = refl
images_long ls k ks ms (y ∷ fresh) e a h = λ t. here t ∷ images_long ls k ks (ms ++ (y ∷ [])) fresh (e ∙ sym (append_assoc ms (y ∷ []) fresh)) (suc a) (length_push ms y ∙ plus) t
  where
    plus : length ms + 1 ≡ suc a
    plus = omega arith

    at_y : slice_get (ms ++ (y ∷ fresh)) a ≡ Some y
    at_y = let q : length ms + 0 ≡ a = omega arith in ap (slice_get (ms ++ (y ∷ fresh))) (sym q) ∙ slice_get_right ms (y ∷ fresh) 0

    here : length (opt (slice_get ks.modules a) [] (image ls k ks a)) ≡ cells_in y
    here = ap (λ o. length (opt o [] (image ls k ks a))) (ap (λ ns. slice_get ns a) e ∙ at_y) ∙ length_words _ _ _ 0 y.lib.cells

-- a cell of two lists joined
pub slice_get_either : {A : Type 0} (xs ys : List A) (i : ℕ) (y : A) → slice_get (xs ++ ys) i ≡ Some y → (slice_get xs i ≡ Some y) ⊎ ((d : ℕ) × (i ≡ length xs + d) × (slice_get ys d ≡ Some y))
slice_get_either [] ys i y e = inr (i, omega arith, e)
slice_get_either (x ∷ xs) ys zero y e = inl e
slice_get_either (x ∷ xs) ys (suc i) y e = ⊎_elim inl (λ t. inr (t.0, omega (arith, t.1), t.2)) (slice_get_either xs ys i y e)

pub found_name : (ls : List Library) (x : Name) (l : Library) → find_library ls x ≡ Some l → l.name ≡ x
found_name [] x l e = let z : ◌≡◌ {A = ℕ} 0 1 = cc in absurd (omega arith)
found_name (y ∷ ls) x l e = go (same y.name x) refl e (found_name ls x l)
  where
    go : (b : Bool) → same y.name x ≡ b → cond b (Some y) (find_library ls x) ≡ Some l → (find_library ls x ≡ Some l → l.name ≡ x) → l.name ≡ x
    go true q e r = ap (λ z. z.name) (sym (same_Some _ _ e)) ∙ same_is y.name x q
    go false q e r = r e
