-- The words of settings in a layout that holds them are read into those settings, whatever was pending: the start word forgets it, each value
-- stays in its place, and what the layout does not send is 0.
-- Assumes nothing.
use Rattle.std.specs.Prelude.{Ok}
use Prim.Native.Nat.{ℕ, suc, ◌+◌, ◌-◌, ◌^◌, ◌<◌, ◌≤◌}
use mathlib.Core.Path.{◌≡◌, refl, sym, ap, ◌∙◌, subst}
use mathlib.Core.Bool.{true}
use mathlib.Core.List.{List, [], ◌∷◌, ◌++◌, append-nil}
use native.Mathlib.Omega.{arith}
use borrow.Author.Tests.{lt-ltb, le-ltb, eq-eqb, leb-true}
use lib.Dec.{leb}
use lib.ListN.{length, length-append}
use lib.Seq.{append_snoc}
use Rattle.settings.specs.declared.Settings.{Settings}
use Rattle.settings.proofs.Within.{both}
use Rattle.layouts.specs.Layout.{is_layout, size}
use Rattle.checks.specs.Check.{limits_verdict, sendable}
use Rattle.checks.proofs.Numbers.{passes}
use Rattle.words.specs.Word.{kind_of, data_of, packed}
use Rattle.words.specs.Encode.{checksum_of, words_from, sent, values_of, words_of}
use Rattle.words.specs.Decode.{settings_of}
use Rattle.words.proofs.Words.{sent-size}
use Rattle.words.proofs.Widths.{Below}
use Rattle.kinds.specs.Fields.{field_ok}
use Rattle.reader.specs.Pending.{Pending, Reading}
use Rattle.reader.specs.Read.{layout_in, due_kind, stored, complete, started, kept, start_read, field_read, end_verdict, end_read, read_of, outcome_number}
use Rattle.layouts.proofs.Sizes.{size_below}
use Rattle.reader.proofs.Steps.{read-start, read-end, read-field}
use Rattle.roundtrip.specs.Unique.{ReadsBack}
use Rattle.roundtrip.specs.ReadInto.{ReadInto, last, more}
use Rattle.checks.proofs.Sends.{sends}
use Rattle.roundtrip.proofs.Values.{InFields, values-read, padded, rest, sent_is, sent-below, sent-in-fields, checksum-padded}
use Rattle.roundtrip.proofs.Run.{pending_of, kept-is}

pub small-layout : (l : ℕ) → is_layout l ≡ true → l < 2 ^ 28
small-layout l k = omega (arith, leb-true l 3 (both (leb 1 l) (leb l 3) k).1)

-- a start word
begin : (p : Pending) (l : ℕ) → is_layout l ≡ true → l < 2 ^ 28 → read_of p (packed 0 l) ≡ stored (started l)
unfolding start_read
begin p l k h =
    let value : data_of (packed 0 l) ≡ l = omega arith in
    read-start p (packed 0 l) (omega arith) ∙ rw (value, k)

-- a word of the kind due, its data in its field
step : (p : Pending) (k x : ℕ) → p.count ≡ k → 0 < k → k < size (layout_in p) → x < 2 ^ 28 → field_ok (layout_in p) k x ≡ true → read_of p (packed k x) ≡ stored (kept p k x)
unfolding field_read
step p k x c z h b f =
    let s = size_below (layout_in p) in
    let kind : kind_of (packed k x) ≡ k = omega arith in
    let value : data_of (packed k x) ≡ x = omega arith in
    let due : k ≡ due_kind p = rw (c, lt-ltb k (size (layout_in p)) h) in
    read-field p (packed k x) (kind ∙ due) (λ e. omega arith) (λ e. omega arith) ∙ rw (kind, value, f)

-- the end word
close : (p : Pending) → size (layout_in p) ≤ p.count → limits_verdict (settings_of p.values) ≡ Ok tt
    → read_of p (packed 15 (checksum_of p.values)) ≡ complete (settings_of p.values)
unfolding end_read end_verdict checksum_of
close p h l =
    let x = checksum_of p.values in
    let kind : kind_of (packed 15 x) ≡ 15 = omega arith in
    let value : data_of (packed 15 x) ≡ x = omega arith in
    let due : 15 ≡ due_kind p = rw (le-ltb p.count (size (layout_in p)) h) in
    read-end p (packed 15 x) (kind ∙ due) kind ∙ rw (value, eq-eqb x x refl, l)

-- an accepted word, and what is read after it
next : (p q : Pending) (w : ℕ) (ws : List ℕ) (s : Settings) → read_of p w ≡ stored q → ReadInto q ws s → ReadInto p (w ∷ ws) s
next p q w ws s e r =
    more (ap (λ (a : Reading). outcome_number a.outcome) e) (subst (λ (t : Pending). ReadInto t ws s) (sym (ap (λ (a : Reading). a.pending) e)) r)

-- words from kind k on after a run, and the end word of all values
abbrev ending : ℕ → List ℕ → List ℕ → List ℕ
ending k ys xs = words_from k ys ++ packed 15 (checksum_of (pending_of xs).values) ∷ []

reads : (l : ℕ) (xs ys : List ℕ) (k : ℕ) → k ≡ suc (length xs) → k + length ys ≡ size l → Below ys → InFields l k ys
    → limits_verdict (settings_of (pending_of (l ∷ (xs ++ ys))).values) ≡ Ok tt
    → ReadInto (pending_of (l ∷ xs)) (ending k ys (l ∷ (xs ++ ys))) (settings_of (pending_of (l ∷ (xs ++ ys))).values)
unfolding words_from
reads l xs [] k q n b f v =
    let e = append-nil xs in
    let c = close (pending_of (l ∷ xs)) (omega arith) (rw e at v) in
    rw e (last (ap (λ (a : Reading). a.outcome) c))
reads l xs (y ∷ ys) k q n b f v =
    let h = size_below l in
    let e : (xs ++ y ∷ []) ++ ys ≡ xs ++ y ∷ ys = append_snoc xs y ys in
    let a : k + 1 ≡ suc (length (xs ++ y ∷ [])) = omega (arith, length-append xs (y ∷ [])) in
    let r = reads l (xs ++ y ∷ []) ys (k + 1) a (omega arith) b.1 f.1 (rw e v) in
    let p = pending_of (l ∷ xs) in
    let grown : kept p k y ≡ pending_of (l ∷ (xs ++ y ∷ [])) = rw q (kept-is (l ∷ xs) y (omega arith)) in
    next p (pending_of (l ∷ (xs ++ y ∷ []))) (packed k y) _ _ (step p k y (sym q) (omega arith) (omega arith) b.0 f.0 ∙ ap stored grown)
    (rw e at r)

module _ (l : ℕ) (s : Settings) (a : sendable l s ≡ true) where
  abbrev run : List ℕ
  run = l ∷ rest l s

  -- the whole run is all values, and its sum that of the values sent
  values-are : (pending_of run).values ≡ values_of l s
  values-are = subst (λ (xs : List ℕ). (pending_of xs).values ≡ values_of l s) (sent_is l s) (rw (sent-size l s) (sym (padded l s)))

  sum_is : checksum_of (pending_of run).values ≡ checksum_of (sent l s)
  sum_is = checksum-padded run (15 - length run) ∙ ap checksum_of (sym (sent_is l s))

  after-start : ReadInto (started l) (words_from 1 (rest l s) ++ packed 15 (checksum_of (sent l s)) ∷ []) s
  after-start =
      let h = sends l s a in
      let ok = (passes s h.good).range in
      let read : settings_of (pending_of run).values ≡ s = ap settings_of values-are ∙ values-read l s ok h.held in
      let n : suc (length (rest l s)) ≡ size l = ap length (sym (sent_is l s)) ∙ sent-size l s in
      let b : Below run = subst Below (sent_is l s) (sent-below l s h.is-layout ok) in
      let f : InFields l 0 run = subst (InFields l 0) (sent_is l s) (sent-in-fields l s h.is-layout ok) in
      let r = reads l [] (rest l s) 1 refl (omega arith) b.1 f.1 (rw read (passes s h.good).limits) in
      rw (sum_is, read) at r

  pub there : (p : Pending) → ReadInto p (words_of l s) s
  unfolding words_of words_from
  there p =
      let k = (sends l s a).is-layout in
      let words : words_of l s ≡ packed 0 l ∷ (words_from 1 (rest l s) ++ packed 15 (checksum_of (sent l s)) ∷ []) =
      ap (λ (xs : List ℕ). words_from 0 xs ++ packed 15 (checksum_of (sent l s)) ∷ []) (sent_is l s) in
      rw words (next p (started l) (packed 0 l) _ s (begin p l k (small-layout l k)) after-start)

pub reads-back : ReadsBack
reads-back = there
