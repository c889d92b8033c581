-- Demands 1 and 2 over lists of events, by the laws of one word and one tick.
-- Assumes nothing.
use Rattle.std.specs.Prelude.{Ok}
use Prim.Native.Nat.{ℕ, ◌+◌, ◌≤◌}
use mathlib.Core.Path.{◌≡◌, refl, sym, ap, ◌∙◌, subst}
use mathlib.Core.List.{List, [], ◌∷◌, ◌++◌, nil≢cons, head-eq_of_cons-eq, tail-eq_of_cons-eq}
use native.Mathlib.Omega.{arith}
use lib.ListN.{length}
use Rattle.settings.specs.declared.Settings.{Settings}
use Rattle.settings.specs.Refusal.{verdict_number}
use Rattle.checks.proofs.Numbers.{passes}
use Rattle.words.specs.Word.{kind_of, packed as word_by}
use Rattle.words.specs.Encode.{checksum_of, words_from, sent, words_of}
use Rattle.words.proofs.Widths.{Below}
use Rattle.reader.specs.Pending.{Pending, Reading, Outcome, Stored, Complete}
use Rattle.reader.specs.Read.{empty_pending, read_of, outcome_number}
use Rattle.reader.proofs.Accepted.{AcceptedBy, begins, keeps, closes, accepted-by}
use Rattle.roundtrip.specs.ReadInto.{ReadInto, last, more}
use Rattle.roundtrip.specs.Stream.{pending_from}
use Rattle.layouts.proofs.Sizes.{size_below}
use Rattle.checks.proofs.Sends.{sends}
use Rattle.words.proofs.Words.{sent-size}
use Rattle.roundtrip.proofs.Values.{sent-below}
use Rattle.roundtrip.proofs.There.{there}
use Rattle.roundtrip.proofs.Completed.{last-completes, snoc-inj}
use Rattle.rules.specs.Axis.{Axis, Worded}
use Rattle.ticks.specs.declared.Tick.{Tick}
use Rattle.rules.specs.Word.{with_pending, taken, word_of}
use Rattle.rules.specs.Tick.{tick_of}
use Rattle.rules.proofs.Refused.{left-empty, refused-word, pending-unseen}
use Rattle.demands.specs.Events.{Event, word, tick}
use Rattle.demands.specs.Replies.{left_by, axis_from, replies_from}
use Rattle.demands.specs.Whole.{PendingUnseen, RefusedUnseen, words_in, AllAccepted, after_takeover, RoundTrip}

-- ---- no tick sees what is pending

pub pending-unseen-from : PendingUnseen
pending-unseen-from a p [] = refl
pending-unseen-from a p (t ∷ ts) =
    let e = pending-unseen a p t in
    rw (e.left, e.answer, pending-unseen-from (tick_of a t).axis p ts)

pub refused-unseen : RefusedUnseen
refused-unseen a w ts n = rw (refused-word a w n) (pending-unseen-from a empty_pending ts)

-- ---- the words of settings in a layout that holds them, with ticks between

-- words that are stored, one after the other
abbrev AllStored : Pending → List ℕ → Type 0
AllStored p [] = Unit {0}
AllStored p (w ∷ ws) = ((read_of p w).outcome ≡ Stored) × AllStored (read_of p w).pending ws

-- words none of which is an end word
abbrev NoEnd : List ℕ → Type 0
NoEnd [] = Unit {0}
NoEnd (w ∷ ws) = (kind_of w ≡ 15 → ⊥) × NoEnd ws

no_end : (k : ℕ) (xs : List ℕ) → k + length xs ≤ 15 → Below xs → NoEnd (words_from k xs)
unfolding words_from
no_end k [] h b = tt
no_end k (x ∷ xs) h b = (λ e. omega (arith, b.0), no_end (k + 1) xs (omega arith) b.1)

stores : (p : Pending) (w : ℕ) → outcome_number (read_of p w).outcome ≡ 0 → (kind_of w ≡ 15 → ⊥) → (read_of p w).outcome ≡ Stored
unfolding checksum_of
stores p w z n = go (accepted-by p w z)
  where
    go : AcceptedBy p w → (read_of p w).outcome ≡ Stored
    go (begins i h e) = ap (λ (a : Reading). a.outcome) e
    go (keeps k h z i e) = ap (λ (a : Reading). a.outcome) e
    go (closes d i l e) = absurd (n (omega arith))

-- the front of words that are read into settings is stored
front-stored : {p : Pending} {ws : List ℕ} {s : Settings} → ReadInto p ws s → (us : List ℕ) (w : ℕ) → ws ≡ us ++ w ∷ [] → NoEnd us → AllStored p us
front-stored r [] w q n = tt
front-stored (last e) (u ∷ us) w q n = absurd (nothing us w (tail-eq_of_cons-eq q))
  where
    nothing : (us : List ℕ) (w : ℕ) → [] ≡ us ++ w ∷ [] → ⊥
    nothing [] w q = nil≢cons q
    nothing (u ∷ us) w q = nil≢cons q
front-stored (more {p} {w = v} z r) (u ∷ us) w q n =
    let h : v ≡ u = head-eq_of_cons-eq q in
    let o : (read_of p u).outcome ≡ Stored = stores p u (subst (λ (x : ℕ). outcome_number (read_of p x).outcome ≡ 0) h z) n.0 in
    (o, subst (λ (x : ℕ). AllStored (read_of p x).pending us) h (front-stored {p = (read_of p v).pending} r us w (tail-eq_of_cons-eq q) n.1))

tick-keeps : (a : Axis) (t : Tick) → (tick_of a t).axis.pending ≡ a.pending
tick-keeps a t = ap (λ (b : Axis). b.pending) (pending-unseen a a.pending t).left

-- events whose words are all stored: the pending settings are those that the words leave, and every word is accepted
fed : (a : Axis) (es : List Event) → AllStored a.pending (words_in es)
    → ((axis_from a es).pending ≡ pending_from a.pending (words_in es)) × AllAccepted (replies_from a es)
unfolding word_of
fed a [] h = (refl, tt)
fed a (word w ∷ es) h =
    let b = with_pending a (read_of a.pending w).pending in
    let t = fed b es h.1 in
    subst
    (λ (o : Outcome).
    ((axis_from (taken b o).axis es).pending ≡ pending_from a.pending (w ∷ words_in es))
    × ((verdict_number (taken b o).verdict ≡ 0) × AllAccepted (replies_from (taken b o).axis es)))
    (sym h.0)
    (t.0, (refl, t.1))
fed a (tick t ∷ es) h =
    let e : (tick_of a t).axis.pending ≡ a.pending = tick-keeps a t in
    let f = fed (tick_of a t).axis es (subst (λ (p : Pending). AllStored p (words_in es)) (sym e) h) in
    (f.0 ∙ ap (λ (p : Pending). pending_from p (words_in es)) e, f.1)

axis-append : (a : Axis) (es fs : List Event) → axis_from a (es ++ fs) ≡ axis_from (axis_from a es) fs
axis-append a [] fs = refl
axis-append a (e ∷ es) fs = axis-append (left_by a e) es fs

accepted-append : (a : Axis) (es : List Event) (w : ℕ) → AllAccepted (replies_from a es) → verdict_number (word_of (axis_from a es) w).verdict ≡ 0
    → AllAccepted (replies_from a (es ++ word w ∷ []))
accepted-append a [] w h e = (e, tt)
accepted-append a (word v ∷ es) w h e = (h.0, accepted-append (word_of a v).axis es w h.1 e)
accepted-append a (tick t ∷ es) w h e = accepted-append (tick_of a t).axis es w h e

pub round_trip : RoundTrip
unfolding words_of word_of
round_trip a l s es w ok e idle =
    let front = words_from 0 (sent l s) in
    let r : ReadInto a.pending (words_of l s) s = there l s ok a.pending in
    let i = snoc-inj (words_in es) front w (word_by 15 (checksum_of (sent l s))) e in
    let h = sends l s ok in
    let b = size_below l in
    let n : NoEnd (words_in es) = subst NoEnd (sym i.0) (no_end 0 (sent l s) (omega (arith, sent-size l s)) (sent-below l s h.is-layout (passes s h.good).range)) in
    let f = fed a es (front-stored r (words_in es) w (sym e) n) in
    let b = axis_from a es in
    let o : (read_of b.pending w).outcome ≡ Complete s = subst (λ (p : Pending). (read_of p w).outcome ≡ Complete s) (sym f.0) (last-completes r (words_in es) w (sym e)) in
    let p : (read_of b.pending w).pending ≡ empty_pending = left-empty b.pending w (λ q. unstored (sym o ∙ q)) in
    let t : word_of b w ≡ record { axis = after_takeover s (with_pending b empty_pending); verdict = (Ok tt) } = rw (o, p, idle) in
    record {
      accepted = accepted-append a es w f.1 (ap (λ (x : Worded). verdict_number x.verdict) t);
      left = axis-append a es (word w ∷ []) ∙ ap (λ (x : Worded). x.axis) t;
    }
  where
    unstored : Complete s ≡ Stored → ⊥
    unstored q = let z : ◌≡◌ {A = ℕ} 0 1 = cc in omega arith
