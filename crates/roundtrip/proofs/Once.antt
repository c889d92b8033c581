-- Words end in the words of settings exactly where these are the words from the latest start word on; so both layout and settings are read off,
-- and there is one of each.
-- Assumes nothing.
use Prim.Native.Nat.{ℕ, ◌+◌, ◌-◌, ◌<◌}
use mathlib.Core.Path.{◌≡◌, refl, sym, ap, ◌∙◌, subst}
use mathlib.Core.Bool.{true}
use mathlib.Core.List.{List, [], ◌∷◌, ◌++◌, head-eq_of_cons-eq, tail-eq_of_cons-eq}
use native.Mathlib.Omega.{arith}
use borrow.Author.Tests.{ne_eqb, eq-eqb}
use lib.ListN.{length, replicate}
use Rattle.settings.specs.declared.Settings.{Settings}
use Rattle.layouts.specs.Layout.{is_layout, size}
use Rattle.checks.proofs.Numbers.{passes}
use Rattle.words.specs.Word.{kind_of, packed, latest}
use Rattle.words.specs.Encode.{words_from, checksum_of, sent, values_of, words_of}
use Rattle.words.specs.Decode.{settings_of}
use Rattle.roundtrip.specs.Stream.{EndsIn}
use Rattle.roundtrip.specs.Unique.{OneEnd}
use Rattle.checks.proofs.Sends.{sends}
use Rattle.words.proofs.Words.{sent-size}
use Rattle.roundtrip.proofs.Values.{values-read, padded, rest, sent_is}
use Rattle.roundtrip.proofs.There.{small-layout}

-- no start word among words of kinds above 0
quiet : (k : ℕ) (xs : List ℕ) (e : ℕ) → 0 < k → latest (words_from k xs ++ packed 15 e ∷ []) ≡ []
unfolding latest words_from
quiet k [] e h = rw (ne_eqb (kind_of (packed 15 e)) 0 (λ q. omega arith))
quiet k (x ∷ xs) e h = rw (quiet (k + 1) xs e (omega arith), ne_eqb (kind_of (packed k x)) 0 (λ q. omega arith))

-- words in front of a start word change nothing
latest-after : (us vs : List ℕ) (v : ℕ) (r : List ℕ) → latest vs ≡ v ∷ r → latest (us ++ vs) ≡ v ∷ r
unfolding latest
latest-after [] vs v r e = e
latest-after (u ∷ us) vs v r e = rw (latest-after us vs v r e)

module _ (l : ℕ) (s : Settings) where
  -- all words but the start word
  abbrev tail : List ℕ
  tail = words_from 1 (rest l s) ++ packed 15 (checksum_of (sent l s)) ∷ []

  pub from_start : words_of l s ≡ packed 0 l ∷ tail
  unfolding words_of words_from
  from_start = ap (λ (xs : List ℕ). words_from 0 xs ++ packed 15 (checksum_of (sent l s)) ∷ []) (sent_is l s)

  latest-words : is_layout l ≡ true → latest (packed 0 l ∷ tail) ≡ packed 0 l ∷ tail
  unfolding latest
  latest-words k =
      let h = small-layout l k in
      rw (quiet 1 (rest l s) (checksum_of (sent l s)) (omega arith), eq-eqb (kind_of (packed 0 l)) 0 (omega arith))

pub ends-latest : (l : ℕ) (s : Settings) (ws : List ℕ) → EndsIn l s ws → latest ws ≡ words_of l s
ends-latest l s ws e =
    ap latest (e.words ∙ ap (λ (v : List ℕ). e.before ++ v) (from_start l s))
    ∙ latest-after e.before (packed 0 l ∷ tail l s) (packed 0 l) (tail l s) (latest-words l s (sends l s e.sound).is-layout)
    ∙ sym (from_start l s)

-- equal words carry equal data
same-data : (k : ℕ) (xs ys us vs : List ℕ) → length xs ≡ length ys → words_from k xs ++ us ≡ words_from k ys ++ vs → xs ≡ ys
unfolding words_from
same-data k [] [] us vs n e = refl
same-data k [] (y ∷ ys) us vs n e = absurd (omega arith)
same-data k (x ∷ xs) [] us vs n e = absurd (omega arith)
same-data k (x ∷ xs) (y ∷ ys) us vs n e =
    let h : packed k x ≡ packed k y = head-eq_of_cons-eq e in
    let i : x ≡ y = omega arith in
    rw i (ap (λ (t : List ℕ). y ∷ t) (same-data (k + 1) xs ys us vs (omega arith) (tail-eq_of_cons-eq e)))

same-values : (l : ℕ) (s t : Settings) → words_of l s ≡ words_of l t → values_of l s ≡ values_of l t
unfolding words_of
same-values l s t e =
    let d : sent l s ≡ sent l t = same-data 0 (sent l s) (sent l t) _ _ (sent-size l s ∙ sym (sent-size l t)) e in
    padded l s ∙ ap (λ (d : List ℕ). d ++ replicate (15 - size l) 0) d ∙ sym (padded l t)

pub one_end : OneEnd
one_end l m s t ws e f =
    let w : words_of l s ≡ words_of m t = sym (ends-latest l s ws e) ∙ ends-latest m t ws f in
    let h : packed 0 l ≡ packed 0 m = head-eq_of_cons-eq (sym (from_start l s) ∙ w ∙ from_start m t) in
    let n : l ≡ m = omega arith in
    let v = same-values m s t (subst (λ (j : ℕ). words_of j s ≡ words_of m t) n w) in
    let a = sends m s (rw n at e.sound) in
    let b = sends m t f.sound in
    (n, sym (values-read m s (passes s a.good).range a.held) ∙ ap settings_of v ∙ values-read m t (passes t b.good).range b.held)
