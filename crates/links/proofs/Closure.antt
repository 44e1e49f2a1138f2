-- A closure has each library once, and only such as the text has.
use Rattle.std.specs.Prelude.{None, Option, Some, cond}
use Rattle.std.proofs.Common.{◌≡◌, ℕ, zero, suc, Bool, true, false, List, [], ◌∷◌, ◌++◌, length, refl, ap, ◌∙◌, append_assoc, append-nil, arith}
use Rattle.base.specs.Choices.{on_some}
use Rattle.base.specs.Names.{Name, among, Once, Fresh}
use Rattle.base.proofs.Names.{fresh_less, fresh_not, once_append}
use Rattle.library.specs.Library.{Library, find_library}
use Rattle.links.specs.Closure.{news, breadth, closure}
use Rattle.links.specs.Laws.{Found}

pub news_fresh : (xs seen : List Name) → Fresh (news xs seen) seen × Once (news xs seen)
news_fresh [] seen = (tt, tt)
news_fresh (x ∷ xs) seen = go (among x seen) refl (news_fresh xs seen) (news_fresh xs (x ∷ seen))
  where
    go : (b : Bool) → among x seen ≡ b → Fresh (news xs seen) seen × Once (news xs seen) → Fresh (news xs (x ∷ seen)) (x ∷ seen) × Once (news xs (x ∷ seen)) → Fresh (cond b (news xs seen) (x ∷ news xs (x ∷ seen))) seen × Once (cond b (news xs seen) (x ∷ news xs (x ∷ seen)))
    go true e m n = m
    go false e m n = ((e, fresh_less x _ seen n.0), (fresh_not x _ seen n.0, n.1))

pub found_more : (ls : List Library) (xs : List Name) (x : Name) (l : Library) → Found ls xs → find_library ls x ≡ Some l → Found ls (xs ++ (x ∷ []))
found_more ls [] x l f e = ((l, e), tt)
found_more ls (y ∷ xs) x l f e = (f.0, found_more ls xs x l f.1 e)

breadth_once : (n : ℕ) (ls : List Library) (done queue seen ys : List Name) → seen ≡ done ++ queue → Found ls done → Once seen → breadth n ls queue seen ≡ Some ys → Found ls ys × Once ys
breadth_once n ls done [] seen ys e f o r = let q : seen ≡ ys = cc in let p : seen ≡ done = e ∙ append-nil done in (rw (← q, p) f, rw q at o)
breadth_once zero ls done (x ∷ xs) seen ys e f o r = let z : ◌≡◌ {A = ℕ} 0 1 = cc in absurd (omega arith)
breadth_once (suc n) ls done (x ∷ xs) seen ys e f o r = go (find_library ls x) refl r (λ l. breadth_once n ls (done ++ (x ∷ [])) (xs ++ news l.needs seen) (seen ++ news l.needs seen) ys)
  where
    go : (a : Option Library) → find_library ls x ≡ a → on_some a (λ l. breadth n ls (xs ++ news l.needs seen) (seen ++ news l.needs seen)) ≡ Some ys → ((l : Library) → seen ++ news l.needs seen ≡ (done ++ (x ∷ [])) ++ (xs ++ news l.needs seen) → Found ls (done ++ (x ∷ [])) → Once (seen ++ news l.needs seen) → breadth n ls (xs ++ news l.needs seen) (seen ++ news l.needs seen) ≡ Some ys → Found ls ys × Once ys) → Found ls ys × Once ys
    go None q r rec = let z : ◌≡◌ {A = ℕ} 0 1 = cc in absurd (omega arith)
    go (Some l) q r rec = let w = news_fresh l.needs seen in rec l (ap (λ z. z ++ news l.needs seen) e ∙ simp append_assoc) (found_more ls done x l f q) (once_append seen _ o w.0 w.1) r

pub closure_once : (ls : List Library) (x : Name) (ys : List Name) → closure ls x ≡ Some ys → Found ls ys × Once ys
closure_once ls x ys e = breadth_once (suc (length ls)) ls [] (x ∷ []) (x ∷ []) ys refl tt (refl, tt) e
