use Rattle.std.proofs.Common.{[], inl, inr, refl, ap, subst, drop, ◌∙◌, rules}
use Rattle.ws_io.specs.Arguments.{IsRefused}
use Rattle.ws_io.specs.declared.arguments.ArgumentsRefused.{ArgumentsRefused}
use Rattle.ws_io.specs.declared.status.Status.TheVariants.{Usage, NoMemory}
use Rattle.ws_cli.proofs.Performing.{are_words}
use Rattle.ws_cli.proofs.program.process.Goals as goal

-- the arguments weren't had
pub returns-in-Err-NotText-clause-ends : goal.returns-in-Err-NotText-clause-ends
returns-in-Err-NotText-clause-ends g c =
    record {
      status = Usage;
      edges = [];
      numbered = c.end.ensures.number;
      did = inr (record { refused = rw (← c.in-Err-NotText.field-0-is) c.in-Err-NotText.ensures; edgeless = refl; unloaded = refl; unread = refl; unwritten = refl });
      noted = c.end.ensures.notes;
      emptied = λ e. e;
    }

pub returns-in-Err-NoMemory-clause-ends : goal.returns-in-Err-NoMemory-clause-ends
returns-in-Err-NoMemory-clause-ends g c =
    let told = g.A.Arguments.told c.args.arguments.now in
    let lacking = g.A.Arguments.lacking c.args.arguments.now in
    record {
      status = NoMemory;
      edges = [];
      numbered = c.end-in-Err-NoMemory.ensures.number;
      did = inr (record { refused = subst (λ (e : ArgumentsRefused). IsRefused told lacking e) c.in-Err-NoMemory.field-0-is c.in-Err-NoMemory.ensures; edgeless = refl; unloaded = refl; unread = refl; unwritten = refl });
      noted = c.end-in-Err-NoMemory.ensures.notes;
      emptied = λ e. tt;
    }

pub returns-clause-ends : goal.returns-clause-ends
returns-clause-ends g c =
    record {
      status = c.top-status.result;
      edges = c.top-status.ensures.performs.edges;
      numbered = search rules;
      did = inl (record {
        words = c.after_name-words.result.now;
        are =
            are_words (g.A.Arguments.told c.args.arguments.now) c.in-Ok.all.items c.after_name-words.result.now c.in-Ok.ensures
            (c.after_name-words.ensures ∙ ap (drop 1) c.deref.ensures.value);
        performs = c.top-status.ensures.performs.performs;
      });
      noted = c.top-status.ensures.performs.noted;
      emptied = c.top-status.ensures.emptied;
    }
