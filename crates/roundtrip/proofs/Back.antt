-- Words that are read into settings, a start word among them, are from the latest one on those settings' words. Which settings each layout holds, and so
-- that they may be written in each later one.
-- The idea: a start word forgets what was pending, so that the words might as well have come first.
-- Assumes nothing.
use Prim.Native.Nat.{ℕ, ◌≤◌}
use mathlib.Core.Path.{◌≡◌, refl, sym, ap, ◌∙◌, subst}
use mathlib.Core.Bool.{Bool, true, false, cond, ◌&&◌, and-true}
use mathlib.Core.List.{List, [], ◌∷◌, ◌++◌, nil≢cons}
use native.Mathlib.Omega.{arith}
use borrow.Author.Tests.{eqb-true, eqb-false, ne_eqb, leb-true}
use lib.Dec.{eqb, leb}
use Rattle.settings.specs.declared.Settings.{Settings}
use Rattle.settings.specs.Ranges.{positions_fit}
use Rattle.settings.proofs.Within.{both}
use Rattle.layouts.specs.Layout.{is_layout, homing_is_maximum}
use Rattle.checks.specs.Check.{sendable}
use Rattle.checks.proofs.Sends.{sends, positions-32, held-maximum}
use Rattle.words.specs.Word.{kind_of, or_else, latest}
use Rattle.words.specs.Encode.{checksum_of, words_of}
use Rattle.words.specs.Decode.{layout_of}
use Rattle.reader.specs.Pending.{Pending, Reading, Complete}
use Rattle.reader.specs.Read.{empty_pending, layout_in, read_of}
use Rattle.reader.proofs.Accepted.{ReadBy, refuses, accepted, begins, keeps, closes, read_by}
use Rattle.reader.proofs.Steps.{read-start}
use Rattle.roundtrip.specs.ReadInto.{ReadInto, last, more}
use Rattle.roundtrip.specs.Stream.{pending_from, pending_after}
use Rattle.roundtrip.specs.Unique.{OneList, HeldBy, LayoutsHold, OlderReadMaximum, Rewritten}
use Rattle.roundtrip.proofs.There.{there}
use Rattle.roundtrip.proofs.Once.{from_start, ends-latest}
use Rattle.roundtrip.proofs.Completed.{completed}

-- a start word forgets what was pending
forget : (p q : Pending) (ws : List ℕ) → (latest ws ≡ [] → ⊥) → pending_from p ws ≡ pending_from q ws
unfolding latest
forget p q [] n = absurd (n refl)
forget p q (w ∷ ws) n = go (forget (read_of p w).pending (read_of q w).pending ws) (latest ws) refl (eqb (kind_of w) 0) refl n
  where
    go : ((latest ws ≡ [] → ⊥) → pending_from (read_of p w).pending ws ≡ pending_from (read_of q w).pending ws) → (t : List ℕ) → latest ws ≡ t → (b : Bool) → eqb (kind_of w) 0 ≡ b
        → (or_else t (cond b (w ∷ ws) []) ≡ [] → ⊥) → pending_from p (w ∷ ws) ≡ pending_from q (w ∷ ws)
    go f [] h true k n =
        let z = eqb-true (kind_of w) 0 k in
        ap (λ (a : Reading). pending_from a.pending ws) (read-start p w z ∙ sym (read-start q w z))
    go f [] h false k n = absurd (n refl)
    go f (x ∷ xs) h b k n = f (λ e. nil≢cons (sym e ∙ h))

-- no start word, and none after one word more that is not a start word
none_more : (us : List ℕ) (w : ℕ) → (kind_of w ≡ 0 → ⊥) → latest us ≡ [] → latest (us ++ w ∷ []) ≡ []
unfolding latest
none_more [] w n e = rw (ne_eqb (kind_of w) 0 n)
none_more (u ∷ us) w n e = go (none_more us w n) (latest us) refl (eqb (kind_of u) 0) refl e
  where
    go : (latest us ≡ [] → latest (us ++ w ∷ []) ≡ []) → (t : List ℕ) → latest us ≡ t → (b : Bool) → eqb (kind_of u) 0 ≡ b → or_else t (cond b (u ∷ us) []) ≡ []
        → latest (u ∷ (us ++ w ∷ [])) ≡ []
    go f [] h true k e = absurd (nil≢cons (sym e))
    go f [] h false k e = rw (f h, k)
    go f (x ∷ xs) h b k e = absurd (nil≢cons (sym e))

-- words that are read into settings: the last of them completes the settings
record Ending (p : Pending) (ws : List ℕ) (s : Settings) : Type 0 where
  front : List ℕ
  end : ℕ
  words : ws ≡ front ++ end ∷ []
  completes : (read_of (pending_from p front) end).outcome ≡ Complete s

ending : {p : Pending} {ws : List ℕ} {s : Settings} → ReadInto p ws s → Ending p ws s
ending (last {w = w} e) = record { front = []; end = w; words = refl; completes = e }
ending (more {w = w} z r) =
    let e = ending r in
    record { front = w ∷ e.front; end = e.end; words = ap (λ (t : List ℕ). w ∷ t) e.words; completes = e.completes }

-- a word that completes settings is an end word
no_start : (p : Pending) (w : ℕ) (s : Settings) → (read_of p w).outcome ≡ Complete s → kind_of w ≡ 0 → ⊥
unfolding checksum_of
no_start p w s o k = go (read_by p w)
  where
    clash : (a : Reading) → read_of p w ≡ a → (a.outcome ≡ Complete s → ⊥) → ⊥
    clash a e n = n (sym (ap (λ (b : Reading). b.outcome) e) ∙ o)

    go : ReadBy p w → ⊥
    go (refuses x e) = clash _ e (λ q. let z : ◌≡◌ {A = ℕ} 0 1 = cc in omega arith)
    go (accepted (begins i h e)) = clash _ e (λ q. let z : ◌≡◌ {A = ℕ} 0 1 = cc in omega arith)
    go (accepted (keeps d h z f e)) = clash _ e (λ q. let z : ◌≡◌ {A = ℕ} 0 1 = cc in omega arith)
    go (accepted (closes h i l e)) = omega arith

pub one_list : OneList
one_list p ws s r n =
    let e = ending r in
    let us = e.front in
    let w = e.end in
    let some : latest us ≡ [] → ⊥ = λ z. n (ap latest e.words ∙ none_more us w (no_start (pending_from p us) w s e.completes) z) in
    let c = completed s us w (subst (λ (q : Pending). (read_of q w).outcome ≡ Complete s) (forget p empty_pending us some) e.completes) in
    let l = layout_in (pending_after us) in
    let words : latest ws ≡ words_of l s = ap latest e.words ∙ ends-latest l s (us ++ w ∷ []) c in
    let tells : layout_of (latest ws) ≡ l = ap layout_of (words ∙ from_start l s) ∙ omega arith in
    rw tells (words, c.sound)

pub older-read-maximum : OlderReadMaximum
older-read-maximum p ws s r n c = held-maximum (layout_of (latest ws)) s (one_list p ws s r n).1 c

-- 32 bits hold all that is acceptable
pub layouts-hold : LayoutsHold
layouts-hold s e =
    let wide = positions-32 s e in
    record { layout_1 = rw e (go (positions_fit 28 s) (homing_is_maximum s)); layout_2 = rw (e, wide) (and-true (homing_is_maximum s)); layout_3 = rw (e, wide); no_other = λ l k. rw k }
  where
    go : (f m : Bool) → f && m && true ≡ m && f
    go true true = refl
    go true false = refl
    go false true = refl
    go false false = refl

-- what a layout holds, each later one does
pub later-sends : (l m : ℕ) (s : Settings) → sendable l s ≡ true → l ≤ m → is_layout m ≡ true → sendable m s ≡ true
later-sends l m s e h k = go (eqb m 3) refl (eqb l m) refl
  where
    held : HeldBy s
    held = layouts-hold s (sends l s e).good

    go : (a : Bool) → eqb m 3 ≡ a → (b : Bool) → eqb l m ≡ b → sendable m s ≡ true
    go true p b q = rw (eqb-true m 3 p) held.layout_3
    go false p true q = subst (λ (j : ℕ). sendable j s ≡ true) (eqb-true l m q) e
    go false p false q =
        let above = leb-true m 3 (both (leb 1 m) (leb m 3) k).1 in
        let least = leb-true 1 l (both (leb 1 l) (leb l 3) (sends l s e).is-layout).0 in
        let two : m ≡ 2 = omega (arith, eqb-false m 3 p, eqb-false l m q) in
        let one : l ≡ 1 = omega (arith, eqb-false m 3 p, eqb-false l m q) in
        rw two (held.layout_2 ∙ (both (homing_is_maximum s) (positions_fit 28 s) (sym held.layout_1 ∙ rw one at e)).0)

pub rewritten : Rewritten
rewritten l m s e h k p = (there l s e p, there m s (later-sends l m s e h k) p)
