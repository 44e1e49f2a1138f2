-- What was shown stays shown, what was taken stays taken.
use Rattle.std.proofs.lemmas.Option.{none-some, same_Some}
use Rattle.std.specs.Prelude.{Some}
use Rattle.std.proofs.Common.{◌≡◌, ℕ, ◌≤◌, true, List, [], ◌∷◌, ◌++◌, sym, refl, ap, ◌∙◌, subst, append_assoc, append-nil, arith}
use Rattle.base.proofs.Choices.{on_some_inv, opt_none}
use Rattle.library.specs.Library.{Library, any_version, main_name}
use Rattle.links.specs.Links.{place_at, Room}
use Rattle.links.specs.Load.{Loaded, load}
use Rattle.links.specs.Symbols.{find_def}
use Rattle.links.proofs.Loading.{load_appends}
use Rattle.meaning.specs.State.{State, loaded, Next, goes, ended, lost, wrong}
use Rattle.meaning.specs.Runs.{blank, started, begins, after}
use Rattle.meaning.specs.Shown.{shown, used_by}
use Rattle.meaning.specs.Always.{state_of, ShownGrows, UsedGrows, UsedFits, OpenRefused}
use Rattle.meaning.proofs.Changes.{Change, no_meaning, is_lost, has_ended, runs, writes, shows, opens_group, binds_slot, begins_close, does_close, after_by}

-- the first list is a front of the second
abbrev Front : List ℕ → List ℕ → Type 0
Front os ps = (more : List ℕ) × (ps ≡ os ++ more)

front_self : (os : List ℕ) → Front os os
front_self os = ([], sym (append-nil os))

front_on : (os ps qs : List ℕ) → Front os ps → Front ps qs → Front os qs
front_on os ps qs a b = (a.0 ++ b.0, b.1 ∙ ap (λ z. z ++ b.0) a.1 ∙ append_assoc os a.0 b.0)

shown_is : (n : Next) → shown n ≡ (state_of n).outs
shown_is (goes s) = refl
shown_is (ended n s) = refl
shown_is (lost s) = refl
shown_is (wrong s) = refl

used_is : (n : Next) → used_by n ≡ (state_of n).links.used
used_is (goes s) = refl
used_is (ended n s) = refl
used_is (lost s) = refl
used_is (wrong s) = refl

module _ (ls : List Library) (m : Room) where
  change_shows : (s : State) (n : Next) → Change ls m s n → Front s.outs (state_of n).outs
  change_shows s n no_meaning = front_self s.outs
  change_shows s n is_lost = front_self s.outs
  change_shows s n (has_ended v) = front_self s.outs
  change_shows s n (runs c f) = front_self s.outs
  change_shows s n (writes c i k old v q e) = front_self s.outs
  change_shows s n (shows c is o e) = (o ∷ [], refl)
  change_shows s n (opens_group c x g l r v p e h) = front_self s.outs
  change_shows s n (binds_slot c k y p q e h f) = front_self s.outs
  change_shows s n (begins_close c h r p e q) = front_self s.outs
  change_shows s n (does_close c js r p fs e h) = front_self s.outs

  -- words are taken by loads alone, and no more than there are
  change_takes : (s : State) (n : Next) → Change ls m s n → (s.links.used ≤ (state_of n).links.used) × (s.links.used ≤ m.words → (state_of n).links.used ≤ m.words)
  change_takes s n no_meaning = (omega arith, λ h. h)
  change_takes s n is_lost = (omega arith, λ h. h)
  change_takes s n (has_ended v) = (omega arith, λ h. h)
  change_takes s n (runs c f) = (omega arith, λ h. h)
  change_takes s n (writes c i k old v q e) = (omega arith, λ h. h)
  change_takes s n (shows c is o e) = (omega arith, λ h. h)
  change_takes s n (opens_group c x g l r v p e h) = let t = load_appends ls m x g s.links l e in (omega (arith, t.taken), λ h. t.fits)
  change_takes s n (binds_slot c k y p q e h f) = (omega arith, λ h. h)
  change_takes s n (begins_close c h r p e q) = (omega arith, λ h. h)
  change_takes s n (does_close c js r p fs e h) = (omega arith, λ h. h)

  pub after_takes : (s : State) (n k : ℕ) → n ≤ k → used_by (after ls m s n) ≤ used_by (after ls m s k)
  after_takes s n k h = let t = after_by ls m (λ a b. a.links.used ≤ b.links.used) (λ a. omega arith) (λ a b c p q. omega (arith, p, q)) (λ a x d. (change_takes a x d).0) s n k h in omega (arith, t, used_is (after ls m s n), used_is (after ls m s k))

-- how a program begins, taken apart
pub begins_inv : (l : Library) (ls : List Library) (m : Room) (ins : List ℕ) (s : State) → begins (l ∷ ls) m ins ≡ Some s → (c : ℕ) × (x : Loaded) × (find_def true l.defs (record { name = main_name; version = any_version }) ≡ Some c) × (load (l ∷ ls) m l.name true (blank ins).links ≡ Some x) × (s ≡ started (loaded (blank ins) x) (x.calls ++ (place_at 0 c ∷ [])))
begins_inv l ls m ins s e =
    let p = on_some_inv (find_def true l.defs (record { name = main_name; version = any_version })) _ s e in
    let q = on_some_inv (load (l ∷ ls) m l.name true (blank ins).links) _ s p.2 in
    (p.0, q.0, p.1, q.1, sym (same_Some _ _ q.2))

pub used_fits : UsedFits
used_fits [] m ins s n e = absurd (none-some _ e)
used_fits (l ∷ ls) m ins s n e = let b = begins_inv l ls m ins s e in let t = after_by (l ∷ ls) m (λ a c. a.links.used ≤ m.words → c.links.used ≤ m.words) (λ a h. h) (λ a b c p q h. q (p h)) (λ a x d. (change_takes (l ∷ ls) m a x d).1) s 0 n (omega arith) (subst (λ t. t.links.used ≤ m.words) (sym b.4) (load_appends (l ∷ ls) m l.name true (blank ins).links b.1 b.3).fits) in omega (arith, t, used_is (after (l ∷ ls) m s n))

pub shown_grows : ShownGrows
shown_grows ls m s n k h = let t = after_by ls m (λ a b. Front a.outs b.outs) (λ a. front_self a.outs) (λ a b c p q. front_on a.outs b.outs c.outs p q) (change_shows ls m) s n k h in (t.0, shown_is (after ls m s k) ∙ t.1 ∙ ap (λ os. os ++ t.0) (sym (shown_is (after ls m s n))))

pub used_grows : UsedGrows
used_grows ls m s n k h = after_takes ls m s n k h

pub open_refused : OpenRefused
open_refused ls m s r global x e = (_, opt_none (load ls m x global s.links) _ _ e, record { links = refl; cells = refl; regs = refl; here = refl; frames = refl; pushed = refl; ins = refl; outs = refl })
