-- The settings that words complete, read off the words from the latest start word on, are those that the reader hands out at the last of them.
-- Assumes nothing.
use Prim.Native.Nat.{ℕ, ◌+◌, ◌-◌, ◌*◌, ◌%◌, ◌^◌}
use mathlib.Core.Path.{◌≡◌, refl, sym, ap, ◌∙◌}
use mathlib.Core.Bool.{Bool, true, false, cond, ◌&&◌, false≢true}
use mathlib.Core.List.{List, [], ◌∷◌, ◌++◌, map, append-nil}
use native.Mathlib.Omega.{arith}
use borrow.Author.Tests.{eq-eqb, eqb-true}
use lib.Dec.{eqb}
use lib.ListN.{length, take}
use lib.Seq.{take_at}
use Rattle.settings.specs.declared.Settings.{Settings}
use Rattle.settings.proofs.Within.{both}
use Rattle.layouts.specs.Layout.{size}
use Rattle.checks.specs.Check.{sendable}
use Rattle.checks.proofs.Numbers.{passes}
use Rattle.words.specs.Word.{kind_of, data_of, packed, same_words, latest}
use Rattle.words.specs.Encode.{checksum_of, words_from, sent, values_of, words_of}
use Rattle.words.specs.Decode.{layout_of, settings_of}
use Rattle.words.proofs.Words.{length-words, sent-size}
use Rattle.words.proofs.Widths.{Below}
use Rattle.reader.specs.Pending.{Outcome, Refused, Stored, Complete}
use Rattle.reader.specs.Read.{layout_in, read_of}
use Rattle.roundtrip.specs.Stream.{pending_after, EndsIn}
use Rattle.checks.proofs.Sends.{sends}
use Rattle.roundtrip.proofs.Values.{values-read, padded, sent-below, settings-padded}
use Rattle.roundtrip.proofs.Once.{from_start, ends-latest}
use Rattle.roundtrip.proofs.Completed.{completes, completed}
use Rattle.rules.specs.Axis.{Active, Nothing, Set}
use Rattle.demands.specs.Takeover.{carried, completed_by, CompletedExactly}

same_refl : (xs : List ℕ) → same_words xs xs ≡ true
same_refl [] = refl
same_refl (x ∷ xs) = rw (eq-eqb x x refl) (same_refl xs)

same-equal : (xs ys : List ℕ) → same_words xs ys ≡ true → xs ≡ ys
same-equal [] [] e = refl
same-equal [] (y ∷ ys) e = absurd (false≢true e)
same-equal (x ∷ xs) [] e = absurd (false≢true e)
same-equal (x ∷ xs) (y ∷ ys) e =
    let b = both (eqb x y) (same_words xs ys) e in
    let h = eqb-true x y b.0 in
    let t = same-equal xs ys b.1 in
    rw (h, t)

-- the data of words are the values that they were made of
data-words : (k : ℕ) (xs : List ℕ) → Below xs → map data_of (words_from k xs) ≡ xs
unfolding words_from
data-words k [] b = refl
data-words k (x ∷ xs) b =
    let h : (k * 2 ^ 28 + x) % 2 ^ 28 ≡ x = omega (arith, b.0) in
    rw (h, data-words (k + 1) xs b.1)

-- the words before the latest start word
record Split (ws : List ℕ) : Type 0 where
  before : List ℕ
  whole : ws ≡ before ++ latest ws

split : (ws : List ℕ) → Split ws
unfolding latest
split [] = record { before = []; whole = refl }
split (w ∷ ws) = go (latest ws) refl (eqb (kind_of w) 0) refl (split ws)
  where
    go : (r : List ℕ) → latest ws ≡ r → (b : Bool) → eqb (kind_of w) 0 ≡ b → Split ws → Split (w ∷ ws)
    go [] e true q s = record { before = []; whole = rw (e, q) }
    go [] e false q s = record { before = w ∷ ws; whole = rw (e, q, append-nil ws) }
    go (x ∷ xs) e b q s = record { before = w ∷ s.before; whole = rw e (ap (λ (t : List ℕ). w ∷ t) (rw e at s.whole)) }

module _ (l : ℕ) (s : Settings) where
  layout_is : layout_of (words_of l s) ≡ l
  layout_is = rw (from_start l s) (omega arith)

  -- what is not sent is not missed
  settings-sent : settings_of (sent l s) ≡ settings_of (values_of l s)
  settings-sent = sym (settings-padded (sent l s) (15 - size l)) ∙ ap settings_of (sym (padded l s))

  carried-is : sendable l s ≡ true → carried (words_of l s) ≡ s
  unfolding words_of
  carried-is a =
      let h = sends l s a in
      let ok = (passes s h.good).range in
      let end = packed 15 (checksum_of (sent l s)) ∷ [] in
      let n : length (words_from 0 (sent l s)) ≡ size l = length-words 0 (sent l s) ∙ sent-size l s in
      let t : take (size l) (words_of l s) ≡ words_from 0 (sent l s) = take_at (words_from 0 (sent l s)) end (size l) n in
      let d = data-words 0 (sent l s) (sent-below l s h.is-layout ok) in
      ap (λ (m : ℕ). settings_of (map data_of (take (size m) (words_of l s)))) layout_is
      ∙ ap (λ (us : List ℕ). settings_of (map data_of us)) t
      ∙ ap settings_of d ∙ settings-sent ∙ values-read l s ok h.held

  pub found : (ws : List ℕ) → EndsIn l s ws → completed_by ws ≡ Set s
  unfolding completed_by
  found ws e = rw (ends-latest l s ws e, carried-is e.sound, layout_is, same_refl (words_of l s), e.sound)

pub sound : (s : Settings) (ws : List ℕ) → completed_by ws ≡ Set s → EndsIn (layout_of (latest ws)) s ws
unfolding completed_by
sound s ws e = go (same_words (latest ws) (words_of l (carried (latest ws)))) refl (sendable l (carried (latest ws))) refl e
  where
    l : ℕ
    l = layout_of (latest ws)

    clash : {X : Type 0} → Nothing ≡ Set s → X
    clash q = let z : ◌≡◌ {A = ℕ} 0 1 = cc in absurd (omega arith)

    go : (a : Bool) → same_words (latest ws) (words_of l (carried (latest ws))) ≡ a → (b : Bool) → sendable l (carried (latest ws)) ≡ b
        → cond (a && b) (Set (carried (latest ws))) Nothing ≡ Set s → EndsIn l s ws
    go true p true q e =
        let same : carried (latest ws) ≡ s = cc in
        let w : latest ws ≡ words_of l s = same-equal (latest ws) (words_of l (carried (latest ws))) p ∙ ap (words_of l) same in
        record { before = (split ws).before; words = (split ws).whole ∙ ap (λ (us : List ℕ). (split ws).before ++ us) w; sound = rw (sym same) q }
    go true p false q e = clash e
    go false p b q e = clash e

pub completed-exactly : CompletedExactly
completed-exactly s ws = (λ e. record { layout = layout_of (latest ws); ends = sound s ws e }, λ e. found e.layout s ws e.ends)

-- what an outcome completes
abbrev pub completed_in : Outcome → Active
completed_in (Refused r) = Nothing
completed_in Stored = Nothing
completed_in (Complete s) = Set s

-- one word more: the reading of the words and the reader agree
pub takeover : (ws : List ℕ) (w : ℕ) → completed_by (ws ++ w ∷ []) ≡ completed_in (read_of (pending_after ws) w).outcome
takeover ws w = go (read_of (pending_after ws) w).outcome refl
  where
    none : (o : Outcome) → (read_of (pending_after ws) w).outcome ≡ o → ((s : Settings) → o ≡ Complete s → ⊥) → (a : Active) → completed_by (ws ++ w ∷ []) ≡ a → a ≡ Nothing
    none o e n Nothing q = refl
    none o e n (Set s) q = absurd (n s (sym e ∙ completes (layout_of (latest (ws ++ w ∷ []))) s ws w (sound s (ws ++ w ∷ []) q)))

    go : (o : Outcome) → (read_of (pending_after ws) w).outcome ≡ o → completed_by (ws ++ w ∷ []) ≡ completed_in o
    go (Refused r) e = none (Refused r) e (λ s q. let z : ◌≡◌ {A = ℕ} 0 1 = cc in omega arith) _ refl
    go Stored e = none Stored e (λ s q. let z : ◌≡◌ {A = ℕ} 0 1 = cc in omega arith) _ refl
    go (Complete s) e = found (layout_in (pending_after ws)) s (ws ++ w ∷ []) (completed s ws w e)
