-- `axis::word` meets its contract: by its kind, and what is due, a word goes the way of the reader's rule.
-- Assumes nothing.
use Prim.Native.Nat.{ℕ}
use mathlib.Core.Path.{◌≡◌, refl, sym, ap₂, ◌∙◌}
use mathlib.Core.Bool.{true, false}
use native.Mathlib.Omega.{arith}
use borrow.Author.Tests.{eq-eqb, ne_eqb}
use Rattle.settings.specs.declared.Refusal.TheVariants.{OutOfSequence}
use Rattle.words.specs.Word.{kind_of}
use Rattle.reader.specs.Pending.{Pending}
use Rattle.reader.specs.Read.{layout_in, due_after, due_kind}
use Rattle.reader.specs.Cases.{is_end}
use Rattle.reader.proofs.Steps.{read-start, read_out, read-end, read-field}
use Rattle.cells.specs.Cells.{pending_in}
use Rattle.axis.proofs.Taking.{refused-word, word-call}
use Rattle.axis.proofs.word.Goals as goal

-- what is due, by what is pending
due : (p : Pending) (d l n : ℕ) → d ≡ due_after l n → l ≡ layout_in p → n ≡ p.count → d ≡ due_kind p
due p d l n e f g = e ∙ ap₂ due_after f g

pub returns-then-kind-eq0 : goal.returns-then-kind-eq0
returns-then-kind-eq0 c =
    let k = c.if-kind-eq0.true in
    let b = c.args in
    word-call b.axis.now c.start.new.axis b.word c.start.result _ false (read-start _ _ k) (ne_eqb (kind_of b.word) 15 (λ e. omega arith)) c.start.ensures

pub returns-then-kind-lt15 : goal.returns-then-kind-lt15
returns-then-kind-lt15 c =
    let b = c.args in
    let other : kind_of b.word ≡ 15 → ⊥ = λ e. omega (arith, e, c.if-kind-lt15.true) in
    word-call b.axis.now c.store.new.axis b.word c.store.result _ false (read-field _ _ (c.if-kind-due_kind.true ∙ due (pending_in b.axis.now) _ _ _ c.due_kind.ensures c.layout-layout.ensures c.count.ensures) c.if-kind-eq0.false other) (ne_eqb (kind_of b.word) 15 other) c.store.ensures

pub returns-else-kind-lt15 : goal.returns-else-kind-lt15
returns-else-kind-lt15 c =
    let b = c.args in
    let k : kind_of b.word ≡ 15 = omega arith in
    word-call b.axis.now c.finish.new.axis b.word c.finish.result _ true (read-end _ _ (c.if-kind-due_kind.true ∙ due (pending_in b.axis.now) _ _ _ c.due_kind.ensures c.layout-layout.ensures c.count.ensures) k) (eq-eqb (kind_of b.word) 15 k) c.finish.ensures

pub returns-else-kind-due_kind : goal.returns-else-kind-due_kind
returns-else-kind-due_kind c =
    let b = c.args in
    word-call b.axis.now c.empty.new.axis b.word _ _ (is_end b.word) (read_out _ _ c.if-kind-eq0.false (λ e. c.if-kind-due_kind.false (e ∙ sym (due (pending_in b.axis.now) _ _ _ c.due_kind.ensures c.layout-layout.ensures c.count.ensures)))) refl (refused-word _ _ (is_end b.word) OutOfSequence c.empty.ensures)
