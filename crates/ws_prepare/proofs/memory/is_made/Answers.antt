use Rattle.std.proofs.Common.{◌≡◌, ◌==◌, ◌∙◌, ℕ, true, sym, arith, rules, tests}
use Rattle.std.proofs.lemmas.Bool.{not-true}
use Rattle.ws_tables.proofs.Loops.{empty}
use Rattle.ws_prepare.proofs.Preparing.{all-covered, all-have}
use Rattle.ws_prepare.proofs.memory.is_made.Goals as goal

none : (n : ℕ) → true ≡ (n == 0) → n ≡ 0
none n h = search (rules, tests)

pub returns : goal.returns
returns c = λ copied.
    let t = c.args.tables.now in
    let grown = none _ (sym c.if-not-is_empty.false ∙ c.is_empty.ensures) in
    let full = none _ (sym c.if-not-is_empty-2.false ∙ c.is_empty-2.ensures) in
    record {
      places = all-covered t.grown.items t.streams.items (empty t.grown.items (omega (arith, t.grown.ok.0, grown))) c.requires.covered;
      members = all-have t.full.items t.signals.items (empty t.full.items (omega (arith, t.full.ok.0, full))) c.requires.members;
      copies = c.requires.copied (not-true t.uncopied copied);
    }
