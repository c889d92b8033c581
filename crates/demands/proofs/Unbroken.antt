-- Accepted words with no start word among them are due; so the words of settings are an unbroken run. And the last word of a run completes settings at
-- the reader, with which the reading of words agrees.
-- Assumes nothing.
use Prim.Native.Nat.{ℕ, ◌<◌, ◌≤◌}
use mathlib.Core.Path.{◌≡◌, refl, sym, ap, ◌∙◌, subst}
use mathlib.Core.Bool.{Bool, true, false, cond}
use mathlib.Core.List.{List, [], ◌∷◌, ◌++◌, nil≢cons, head-eq_of_cons-eq, tail-eq_of_cons-eq}
use native.Mathlib.Omega.{arith}
use borrow.Author.Tests.{eq-eqb, eqb-true, lt-ltb, le-ltb}
use lib.Dec.{eqb}
use lib.Seq.{append_snoc}
use Rattle.settings.specs.declared.Settings.{Settings}
use Rattle.layouts.specs.Layout.{size}
use Rattle.layouts.proofs.Sizes.{size-least}
use Rattle.words.specs.Word.{kind_of, packed, or_else, latest}
use Rattle.words.specs.Encode.{checksum_of, words_of}
use Rattle.words.specs.Decode.{layout_of}
use Rattle.reader.specs.Pending.{Pending, Reading, Stored, Complete}
use Rattle.reader.specs.Read.{empty_pending, layout_in, due_kind, read_of, outcome_number}
use Rattle.reader.proofs.Accepted.{AcceptedBy, begins, keeps, closes, accepted-by}
use Rattle.roundtrip.specs.ReadInto.{ReadInto, last, more}
use Rattle.roundtrip.specs.Stream.{pending_after}
use Rattle.roundtrip.proofs.There.{there}
use Rattle.roundtrip.proofs.Once.{from_start, ends-latest}
use Rattle.roundtrip.proofs.Completed.{from-append}
use Rattle.rules.specs.Axis.{Set}
use Rattle.demands.specs.Takeover.{completed_by}
use Rattle.demands.specs.Unbroken.{DueInto, closed, due, UnbrokenRun, CompletedByUnbrokenRun, completed_in, AgreesWithReader}
use Rattle.demands.proofs.Takeover.{sound, takeover}

pub agrees-with-reader : AgreesWithReader
agrees-with-reader = takeover

-- ---- from a run to settings

one : (us : List ℕ) (w : ℕ) → pending_after (us ++ w ∷ []) ≡ (read_of (pending_after us) w).pending
one us w = from-append empty_pending us (w ∷ [])

completes-at-end : {p : Pending} {ws : List ℕ} {s : Settings} → DueInto p ws s → (us : List ℕ) → pending_after us ≡ p → completed_by (us ++ ws) ≡ Set s
completes-at-end (closed {p} {w} {s} d k c) us q =
    agrees-with-reader us w ∙ ap (λ (x : Pending). completed_in (read_of x w).outcome) q ∙ ap completed_in c
completes-at-end (due {p} {w} {ws} {s} d a r) us q =
    let rest = completes-at-end r (us ++ w ∷ []) (one us w ∙ ap (λ (x : Pending). (read_of x w).pending) q) in
    ap completed_by (sym (append_snoc us w ws)) ∙ rest

from-run : (s : Settings) (ws : List ℕ) → UnbrokenRun s ws → completed_by ws ≡ Set s
from-run s ws u =
    let upto = completes-at-end u.all_due (u.before ++ u.start ∷ []) (one u.before u.start) in
    ap completed_by (u.words ∙ sym (append_snoc u.before u.start u.rest)) ∙ upto

-- ---- start words

-- no start word among words: the first is none, and there is none after it
none-among : (w : ℕ) (ws : List ℕ) → latest (w ∷ ws) ≡ [] → (kind_of w ≡ 0 → ⊥) × (latest ws ≡ [])
unfolding latest
none-among w ws n = go (latest ws) refl n
  where
    go : (r : List ℕ) → latest ws ≡ r → or_else r (cond (eqb (kind_of w) 0) (w ∷ ws) []) ≡ [] → (kind_of w ≡ 0 → ⊥) × (latest ws ≡ [])
    go [] e n = (λ k. nil≢cons (sym (rw (eq-eqb (kind_of w) 0 k) at n)), e)
    go (x ∷ xs) e n = absurd (nil≢cons (sym n))

-- the words from the latest start word on: it is the first of them and the only one
only-start : (ws : List ℕ) (w : ℕ) (rest : List ℕ) → latest ws ≡ w ∷ rest → (kind_of w ≡ 0) × (latest rest ≡ [])
unfolding latest
only-start [] w rest e = absurd (nil≢cons e)
only-start (v ∷ vs) w rest e = go (only-start vs w rest) (latest vs) refl (eqb (kind_of v) 0) refl e
  where
    go : (latest vs ≡ w ∷ rest → (kind_of w ≡ 0) × (latest rest ≡ [])) → (r : List ℕ) → latest vs ≡ r → (b : Bool) → eqb (kind_of v) 0 ≡ b
        → or_else r (cond b (v ∷ vs) []) ≡ w ∷ rest → (kind_of w ≡ 0) × (latest rest ≡ [])
    go f [] h true k e =
        let first : v ≡ w = head-eq_of_cons-eq e in
        let others : vs ≡ rest = tail-eq_of_cons-eq e in
        (subst (λ (x : ℕ). kind_of x ≡ 0) first (eqb-true (kind_of v) 0 k), subst (λ (r : List ℕ). latest r ≡ []) others h)
    go f [] h false k e = absurd (nil≢cons e)
    go f (x ∷ xs) h b k e = f (h ∙ e)

-- ---- from settings to a run

-- accepted words that are no start words are due
field-due : (p : Pending) → p.count < size (layout_in p) → due_kind p ≡ p.count
field-due p h = rw (lt-ltb p.count (size (layout_in p)) h)

end-due : (p : Pending) → size (layout_in p) ≤ p.count → due_kind p ≡ 15
end-due p h = rw (le-ltb p.count (size (layout_in p)) h)

module _ (p : Pending) (w : ℕ) where
  -- what a reading says is what comes of the word
  comes-to : {r : Reading} → read_of p w ≡ r → (read_of p w).outcome ≡ r.outcome
  comes-to e = ap (λ (r : Reading). r.outcome) e

  -- an end word is of kind 15
  is-end : w ≡ packed 15 (checksum_of p.values) → kind_of w ≡ 15
  unfolding checksum_of
  is-end i = omega (arith, i)

  no-complete : {X : Type 0} {s : Settings} {r : Reading} → read_of p w ≡ r → r.outcome ≡ Stored → (read_of p w).outcome ≡ Complete s → X
  no-complete {s = s} e q c =
      let z : Stored ≡ Complete s = sym q ∙ sym (comes-to e) ∙ c in
      let n : ◌≡◌ {A = ℕ} 0 1 = cc in
      absurd (omega arith)

  -- a word that completes settings is the end word, and due
  close : {s : Settings} → (read_of p w).outcome ≡ Complete s → DueInto p (w ∷ []) s
  close {s} c = go (accepted-by p w (ap outcome_number c))
    where
      go : AcceptedBy p w → DueInto p (w ∷ []) s
      go (begins i l e) = no-complete e refl c
      go (keeps k h n f e) = no-complete e refl c
      go (closes h i l e) = let k = is-end i in closed (k ∙ sym (end-due p h)) k c

  -- a start word that is accepted is stored
  start-stored : kind_of w ≡ 0 → outcome_number (read_of p w).outcome ≡ 0 → (read_of p w).outcome ≡ Stored
  start-stored z a = go (accepted-by p w a)
    where
      go : AcceptedBy p w → (read_of p w).outcome ≡ Stored
      go (begins i l e) = comes-to e
      go (keeps k h n f e) = absurd (n z)
      go (closes h i l e) = absurd (omega (arith, is-end i))

-- with nothing pending a start word is due, and no other
none-due : (p : Pending) (w : ℕ) → p ≡ empty_pending → (kind_of w ≡ 0 → ⊥) → outcome_number (read_of p w).outcome ≡ 0 → ⊥
none-due p w q n a = go (accepted-by p w a)
  where
    zero-come : p.count ≡ 0
    zero-come = ap (λ (x : Pending). x.count) q

    go : AcceptedBy p w → ⊥
    go (begins i l e) = n (omega arith)
    go (keeps k h m f e) = m (k ∙ zero-come)
    go (closes h i l e) = omega (arith, size-least (layout_in p), zero-come)

first-accepted : {p : Pending} {ws : List ℕ} {s : Settings} → ReadInto p ws s → p ≡ empty_pending → latest ws ≡ [] → ⊥
first-accepted (last {p} {w} c) q n = none-due p w q (none-among w [] n).0 (ap outcome_number c)
first-accepted (more {p} {w} {ws} a r) q n = none-due p w q (none-among w ws n).0 a

due-into : {p : Pending} {ws : List ℕ} {s : Settings} → ReadInto p ws s → latest ws ≡ [] → DueInto p ws s
due-into (last {p} {w} c) n = close p w c
due-into (more {p} {w} {ws} {s} a r) n = go (accepted-by p w a) (due-into r rest)
  where
    rest : latest ws ≡ []
    rest = (none-among w ws n).1

    go : AcceptedBy p w → DueInto (read_of p w).pending ws s → DueInto p (w ∷ ws) s
    go (begins i l e) d = absurd ((none-among w ws n).0 (omega arith))
    go (keeps k h m f e) d = due (k ∙ sym (field-due p h)) (comes-to p w e) d
    go (closes h i l e) d = absurd (first-accepted r (ap (λ (x : Reading). x.pending) e) rest)

-- what is read after a start word
after-start : {p : Pending} {ws : List ℕ} {s : Settings} → ReadInto p ws s → (w : ℕ) (rest : List ℕ) → ws ≡ w ∷ rest → kind_of w ≡ 0
    → ((read_of p w).outcome ≡ Stored) × ReadInto (read_of p w).pending rest s
after-start (last {p} {w = v} {s} c) w rest q k =
    let d = subst (λ (x : ℕ). (read_of p x).outcome ≡ Complete s) (head-eq_of_cons-eq q) c in
    no-complete p w refl (start-stored p w k (ap outcome_number d)) d
after-start (more {p} {w = v} {ws} {s} a r) w rest q k =
    let first : v ≡ w = head-eq_of_cons-eq q in
    let stored = start-stored p w k (subst (λ (x : ℕ). outcome_number (read_of p x).outcome ≡ 0) first a) in
    let others : ReadInto (read_of p v).pending rest s = subst (λ (us : List ℕ). ReadInto (read_of p v).pending us s) (tail-eq_of_cons-eq q) r in
    (stored, subst (λ (x : ℕ). ReadInto (read_of p x).pending rest s) first others)

to-run : (s : Settings) (ws : List ℕ) → completed_by ws ≡ Set s → UnbrokenRun s ws
to-run s ws c = go (latest ws) refl
  where
    l : ℕ
    l = layout_of (latest ws)

    before : List ℕ
    before = (sound s ws c).before

    words : latest ws ≡ words_of l s
    words = ends-latest l s ws (sound s ws c)

    go : (r : List ℕ) → latest ws ≡ r → UnbrokenRun s ws
    go [] e = absurd (nil≢cons (sym e ∙ words ∙ from_start l s))
    go (w ∷ rest) e =
        let starts = only-start ws w rest e in
        let read = after-start (there l s (sound s ws c).sound (pending_after before)) w rest (sym words ∙ e) starts.0 in
        record {
          before = before;
          start = w;
          rest = rest;
          words = (sound s ws c).words ∙ ap (λ (us : List ℕ). before ++ us) (sym words ∙ e);
          is_start = starts.0;
          accepted = read.0;
          all_due = due-into read.1 starts.1;
        }

pub completed-by-unbroken-run : CompletedByUnbrokenRun
completed-by-unbroken-run s ws = (to-run s ws, from-run s ws)
