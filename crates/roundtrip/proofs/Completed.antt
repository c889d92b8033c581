-- A word completes settings exactly where the words up to it end in the words of those settings, in a layout that holds them.
-- One way: these words read back from whatever was pending. The other: what is pending is always the run of words that came last, from a
-- start word on, each in its field.
-- Assumes nothing.
use Rattle.std.specs.Prelude.{Ok}
use Prim.Native.Nat.{ℕ, zero, suc, ◌+◌, ◌-◌, ◌^◌, ◌<◌, ◌≤◌}
use mathlib.Core.Path.{◌≡◌, refl, sym, ap, ◌∙◌, subst}
use mathlib.Core.Bool.{Bool, true, false, cond}
use mathlib.Core.List.{List, [], ◌∷◌, ◌++◌, append_assoc, append-nil, nil≢cons, head-eq_of_cons-eq, tail-eq_of_cons-eq}
use native.Mathlib.Omega.{arith}
use borrow.Author.Tests.{ltb-true}
use lib.Dec.{eqb}
use lib.ListN.{length, take, replicate, length-append, length-replicate}
use lib.Seq.{append_snoc, take_at}
use Rattle.settings.specs.declared.Settings.{Settings}
use Rattle.layouts.specs.Layout.{is_layout, size, layout_holds}
use Rattle.checks.specs.Check.{limits_verdict, sendable}
use Rattle.checks.proofs.Numbers.{acceptable-of}
use Rattle.words.specs.Word.{kind_of, data_of, packed}
use Rattle.words.specs.Encode.{values_of, checksum_of, words_from, sent, words_of}
use Rattle.words.specs.Decode.{at, layout_of, settings_of}
use Rattle.words.proofs.Spelled.{spell, spelled}
use Rattle.words.proofs.Widths.{Below}
use Rattle.reader.specs.Pending.{Pending, Reading, Outcome, Refused, Stored, Complete}
use Rattle.kinds.specs.Fields.{field_ok}
use Rattle.reader.specs.Read.{empty_pending, layout_in, refused, stored, complete, started, kept, read_of}
use Rattle.reader.proofs.Accepted.{ReadBy, refuses, accepted, begins, keeps, closes, read_by}
use Rattle.layouts.proofs.Sizes.{size-least, size_below}
use Rattle.roundtrip.specs.ReadInto.{ReadInto, last, more}
use Rattle.roundtrip.specs.Stream.{pending_from, pending_after, EndsIn}
use Rattle.checks.proofs.Sends.{sendable-of}
use Rattle.roundtrip.proofs.Values.{InFields, checksum-padded}
use Rattle.roundtrip.proofs.Fifteen.{tops_end, Sent, carries}
use Rattle.roundtrip.proofs.Run.{pending_of, layout-of-run, kept-is}
use Rattle.roundtrip.proofs.There.{there}

-- ---- from words to settings

pub from-append : (p : Pending) (us vs : List ℕ) → pending_from p (us ++ vs) ≡ pending_from (pending_from p us) vs
from-append p [] vs = refl
from-append p (u ∷ us) vs = from-append (read_of p u).pending us vs

none_read : {p : Pending} {ws : List ℕ} {s : Settings} → ReadInto p ws s → ws ≡ [] → ⊥
none_read (last e) q = nil≢cons (sym q)
none_read (more z r) q = nil≢cons (sym q)

no_end : (us : List ℕ) (w : ℕ) → [] ≡ us ++ w ∷ [] → ⊥
no_end [] w q = nil≢cons q
no_end (u ∷ us) w q = nil≢cons q

-- the last of words that are read into settings completes them, from what the others left
pub last-completes : {p : Pending} {ws : List ℕ} {s : Settings} → ReadInto p ws s → (us : List ℕ) (w : ℕ) → ws ≡ us ++ w ∷ [] → (read_of (pending_from p us) w).outcome ≡ Complete s
last-completes (last {p} {w = v} {s} e) [] w q = subst (λ (x : ℕ). (read_of p x).outcome ≡ Complete s) (head-eq_of_cons-eq q) e
last-completes (last e) (u ∷ us) w q = absurd (no_end us w (tail-eq_of_cons-eq q))
last-completes (more z r) [] w q = absurd (none_read r (tail-eq_of_cons-eq q))
last-completes (more {p} {w = v} {ws} {s} z r) (u ∷ us) w q =
    subst (λ (x : ℕ). (read_of (pending_from (read_of p x).pending us) w).outcome ≡ Complete s) (head-eq_of_cons-eq q)
    (last-completes r us w (tail-eq_of_cons-eq q))

-- two lists with a last element each are equal only as a whole
pub snoc-inj : (us vs : List ℕ) (u v : ℕ) → us ++ u ∷ [] ≡ vs ++ v ∷ [] → (us ≡ vs) × (u ≡ v)
snoc-inj [] [] u v q = (refl, head-eq_of_cons-eq q)
snoc-inj [] (y ∷ vs) u v q = absurd (no_end vs v (tail-eq_of_cons-eq q))
snoc-inj (x ∷ us) [] u v q = absurd (no_end us u (sym (tail-eq_of_cons-eq q)))
snoc-inj (x ∷ us) (y ∷ vs) u v q =
    let i = snoc-inj us vs u v (tail-eq_of_cons-eq q) in
    let h : x ≡ y = head-eq_of_cons-eq q in
    (rw (h, i.0), i.1)

pub completes : (l : ℕ) (s : Settings) (ws : List ℕ) (w : ℕ) → EndsIn l s (ws ++ w ∷ []) → (read_of (pending_after ws) w).outcome ≡ Complete s
unfolding words_of
completes l s ws w e =
    let front = words_from 0 (sent l s) in
    let end = packed 15 (checksum_of (sent l s)) in
    let q : ws ++ w ∷ [] ≡ (e.before ++ front) ++ end ∷ [] = e.words ∙ sym (append_assoc e.before front (end ∷ [])) in
    let i = snoc-inj ws (e.before ++ front) w end q in
    rw (i.0, i.1, from-append empty_pending e.before front)
    (last-completes (there l s e.sound (pending_after e.before)) front end refl)

-- ---- from settings to words

-- what is pending after some words: the values of the run of words that they end in
record Run (ws : List ℕ) : Type 0 where
  xs : List ℕ
  before : List ℕ
  words : ws ≡ before ++ words_from 0 xs
  fits : Below xs
  fields : InFields (layout_of xs) 0 xs
  short : length xs ≤ size (layout_of xs)
  pending : pending_after ws ≡ pending_of xs

-- no run
none : (ws : List ℕ) → pending_after ws ≡ empty_pending → Run ws
unfolding words_from
none ws e = record { xs = []; before = ws; words = sym (append-nil ws); fits = tt; fields = tt; short = omega arith; pending = e }

words_append : (k : ℕ) (xs : List ℕ) (x : ℕ) → words_from k (xs ++ x ∷ []) ≡ words_from k xs ++ packed (k + length xs) x ∷ []
unfolding words_from
words_append k [] x = ap (λ (j : ℕ). packed j x ∷ []) (omega arith)
words_append k (y ∷ xs) x =
    let e : k + 1 + length xs ≡ k + suc (length xs) = omega arith in
    ap (λ (t : List ℕ). packed k y ∷ t) (words_append (k + 1) xs x ∙ ap (λ (j : ℕ). words_from (k + 1) xs ++ packed j x ∷ []) e)

below-append : (xs ys : List ℕ) → Below xs → Below ys → Below (xs ++ ys)
below-append [] ys b c = c
below-append (y ∷ xs) ys b c = (b.0, below-append xs ys b.1 c)

fields-append : (l k : ℕ) (xs : List ℕ) (x : ℕ) → InFields l k xs → field_ok l (k + length xs) x ≡ true → InFields l k (xs ++ x ∷ [])
fields-append l k [] x i f = (subst (λ (j : ℕ). field_ok l j x ≡ true) (omega arith) f, tt)
fields-append l k (y ∷ xs) x i f =
    let e : k + suc (length xs) ≡ k + 1 + length xs = omega arith in
    (i.0, fields-append l (k + 1) xs x i.1 (subst (λ (j : ℕ). field_ok l j x ≡ true) e f))

-- the first stays
first-same : (xs : List ℕ) (x : ℕ) → (length xs ≡ 0 → ⊥) → layout_of (xs ++ x ∷ []) ≡ layout_of xs
first-same [] x h = absurd (h refl)
first-same (y ∷ xs) x h = refl

-- one word more
module _ (ws : List ℕ) (w : ℕ) (r : Run ws) where
  abbrev p : Pending
  p = pending_after ws

  one : pending_after (ws ++ w ∷ []) ≡ (read_of p w).pending
  one = from-append empty_pending ws (w ∷ [])

  left_by : (a : Reading) → read_of p w ≡ a → pending_after (ws ++ w ∷ []) ≡ a.pending
  left_by a e = one ∙ ap (λ (b : Reading). b.pending) e

  run_more : Run (ws ++ w ∷ [])
  unfolding words_from field_ok
  run_more = go (read_by p w)
    where
      go : ReadBy p w → Run (ws ++ w ∷ [])
      go (refuses x e) = none (ws ++ w ∷ []) (left_by (refused x) e)
      go (accepted (closes h i l e)) = none (ws ++ w ∷ []) (left_by (complete (settings_of p.values)) e)
      go (accepted (begins i h e)) =
          record {
            xs = data_of w ∷ [];
            before = ws;
            words = ap (λ (v : ℕ). ws ++ v ∷ []) (omega arith);
            fits = (omega arith, tt);
            fields = (h, tt);
            short = omega (arith, size-least (data_of w));
            pending = left_by (stored (started (data_of w))) e;
          }
      go (accepted (keeps k h z f e)) =
          let xs = r.xs in
          let x = data_of w in
          let l : layout_in p ≡ layout_of xs = ap layout_in r.pending ∙ layout-of-run xs in
          let c : p.count ≡ length xs = ap (λ (q : Pending). q.count) r.pending in
          let n : kind_of w ≡ length xs = k ∙ c in
          let n0 : kind_of w ≡ 0 + length xs = omega arith in
          let v : w ≡ packed (0 + length xs) x = omega arith in
          let b = size_below (layout_of xs) in
          let h2 : length xs < size (layout_of xs) = rw (c, l) at h in
          let s = first-same xs x (λ e. z (n ∙ e)) in
          record {
            xs = xs ++ x ∷ [];
            before = r.before;
            words =
                ap (λ (us : List ℕ). us ++ w ∷ []) r.words ∙ append_assoc r.before (words_from 0 xs) (w ∷ [])
                ∙ ap (λ (us : List ℕ). r.before ++ us) (ap (λ (u : ℕ). words_from 0 xs ++ u ∷ []) v ∙ sym (words_append 0 xs x));
            fits = below-append xs (x ∷ []) r.fits (omega arith, tt);
            fields = rw s (fields-append (layout_of xs) 0 xs x r.fields (rw (l, n0) at f));
            short = rw s (omega (arith, length-append xs (x ∷ [])));
            pending = left_by (stored (kept p (kind_of w) x)) e ∙ rw (r.pending, n) (kept-is xs x (omega arith));
          }

run-from : (us vs : List ℕ) → Run us → Run (us ++ vs)
run-from us [] r = rw (append-nil us) r
run-from us (v ∷ vs) r = subst Run (append_snoc us v vs) (run-from (us ++ v ∷ []) vs (run_more us v r))

run : (ws : List ℕ) → Run ws
run ws = run-from [] ws (none [] refl)

below-zeros : (n : ℕ) → Below (replicate n 0)
below-zeros zero = tt
below-zeros (suc n) = (omega arith, below-zeros n)

-- a whole run, and zeros for what its layout does not send, are the values of what they are read as
module _ (xs : List ℕ) (n : length xs ≡ size (layout_of xs)) (b : Below xs) (i : InFields (layout_of xs) 0 xs) where
  abbrev d : List ℕ
  d = (pending_of xs).values

  abbrev l : ℕ
  l = layout_of xs

  -- kind 14's value is in its field, and 0 where it is not sent
  ends : (t : Bool) → eqb l 1 ≡ t → InFields l 0 d × (at d 14 < tops_end t)
  unfolding field_ok spell
  ends true e =
      let m : length xs ≡ 14 = n ∙ ap (λ (u : Bool). cond u 14 15) e in
      let s = spelled 14 xs m in
      rw m (fields-append l 0 xs 0 i (rw m), rw s (omega arith))
  ends false e =
      let m : length xs ≡ 15 = n ∙ ap (λ (u : Bool). cond u 14 15) e in
      let s = spelled 15 xs m in
      let j = rw s at i in
      rw (m, append-nil xs) (i, rw s (ltb-true _ (2 ^ 12) j.1.1.1.1.1.1.1.1.1.1.1.1.1.1.0))

  sheet : Sent d
  sheet =
      let h = size_below l in
      let e = ends (eqb l 1) refl in
      record {
        long = omega (arith, length-append xs (replicate (15 - length xs) 0), length-replicate {A = ℕ} (15 - length xs) 0);
        below = below-append xs (replicate (15 - length xs) 0) b (below-zeros (15 - length xs));
        fields = rw (layout-of-run xs) e.0;
        unsent = rw (layout-of-run xs) e.1;
      }

  is-layout : is_layout l ≡ true
  unfolding field_ok
  is-layout = go xs n i
    where
      go : (ys : List ℕ) → length ys ≡ size (layout_of ys) → InFields (layout_of ys) 0 ys → is_layout (layout_of ys) ≡ true
      go [] m f = absurd (omega arith)
      go (y ∷ ys) m f = f.0

  words_are : words_from 0 xs ++ packed 15 (checksum_of d) ∷ [] ≡ words_of l (settings_of d)
  unfolding words_of
  words_are =
      let c = carries d sheet in
      let e : values_of l (settings_of d) ≡ d = subst (λ (j : ℕ). values_of j (settings_of d) ≡ d) (layout-of-run xs) c.values in
      let t : sent l (settings_of d) ≡ xs = ap (take (size l)) e ∙ take_at xs (replicate (15 - length xs) 0) (size l) n in
      rw (t, checksum-padded xs (15 - length xs))

  sound-here : limits_verdict (settings_of d) ≡ Ok tt → sendable l (settings_of d) ≡ true
  sound-here v =
      let c = carries d sheet in
      sendable-of l (settings_of d)
      (record {
        is-layout = is-layout;
        held = subst (λ (j : ℕ). layout_holds j (settings_of d) ≡ true) (layout-of-run xs) c.held;
        good = acceptable-of (settings_of d) c.range v;
      })

pub completed : (s : Settings) (ws : List ℕ) (w : ℕ) → (read_of (pending_after ws) w).outcome ≡ Complete s
    → EndsIn (layout_in (pending_after ws)) s (ws ++ w ∷ [])
completed s ws w o = go (run ws) (read_by (pending_after ws) w)
  where
    clash : {X : Type 0} (t : Outcome) → (Complete s ≡ t → ⊥) → (read_of (pending_after ws) w).outcome ≡ t → X
    clash t n e = absurd (n (sym o ∙ e))

    end : (r : Run ws) → size (layout_in (pending_after ws)) ≤ (pending_after ws).count → w ≡ packed 15 (checksum_of (pending_after ws).values)
        → limits_verdict (settings_of (pending_after ws).values) ≡ Ok tt → s ≡ settings_of (pending_after ws).values
        → EndsIn (layout_in (pending_after ws)) s (ws ++ w ∷ [])
    end r h i v q =
        let xs = r.xs in
        let l : layout_in (pending_after ws) ≡ layout_of xs = ap layout_in r.pending ∙ layout-of-run xs in
        let c : (pending_after ws).count ≡ length xs = ap (λ (p : Pending). p.count) r.pending in
        let g : size (layout_of xs) ≤ length xs = rw (c, l) at h in
        let k = r.short in
        let n : length xs ≡ size (layout_of xs) = omega arith in
        let d : (pending_after ws).values ≡ (pending_of xs).values = ap (λ (p : Pending). p.values) r.pending in
        let same : s ≡ settings_of (pending_of xs).values = q ∙ ap settings_of d in
        let u : w ≡ packed 15 (checksum_of (pending_of xs).values) = i ∙ ap (λ (x : List ℕ). packed 15 (checksum_of x)) d in
        rw (l, same) (record {
          before = r.before;
          words =
              ap (λ (us : List ℕ). us ++ w ∷ []) r.words ∙ append_assoc r.before (words_from 0 xs) (w ∷ [])
              ∙ ap (λ (us : List ℕ). r.before ++ us)
              (ap (λ (x : ℕ). words_from 0 xs ++ x ∷ []) u ∙ words_are xs n r.fits r.fields);
          sound = sound-here xs n r.fits r.fields (rw d at v);
        })

    out : {a : Reading} → read_of (pending_after ws) w ≡ a → (read_of (pending_after ws) w).outcome ≡ a.outcome
    out e = ap (λ (b : Reading). b.outcome) e

    go : Run ws → ReadBy (pending_after ws) w → EndsIn (layout_in (pending_after ws)) s (ws ++ w ∷ [])
    go r (refuses x e) = clash (Refused x) (λ q. let z : ◌≡◌ {A = ℕ} 0 1 = cc in omega arith) (out e)
    go r (accepted (begins i h e)) = clash Stored (λ q. let z : ◌≡◌ {A = ℕ} 0 1 = cc in omega arith) (out e)
    go r (accepted (keeps k h z f e)) = clash Stored (λ q. let z : ◌≡◌ {A = ℕ} 0 1 = cc in omega arith) (out e)
    go r (accepted (closes h i l e)) =
        let q : Complete s ≡ Complete (settings_of (pending_after ws).values) = sym o ∙ out e in
        end r h i l (cc)
