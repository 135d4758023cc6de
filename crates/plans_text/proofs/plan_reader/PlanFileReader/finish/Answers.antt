use Rattle.std.proofs.Common.{◌≡◌, subst}
use Rattle.std.proofs.lemmas.Result.{IfOk-weaker}
use Rattle.plans_text.specs.PlanFile.{read_of, texts_of, with_texts}
use Rattle.aia_io.specs.Lines.{NoEnd}
use Rattle.plans_text.proofs.StreamLemmas.{ended_outcome, ended_whole}
use Rattle.plans_text.proofs.plan_reader.PlanFileReader.finish.Goals as goal

pub returns : goal.returns
returns c =
    let read = subst (λ rest. NoEnd rest → read_of c.add_last.new.self ≡ with_texts (read_of c.args.self.file) (texts_of rest))
    c.deref.ensures.value c.in_ok-add_last.ensures.read in
    record {
      text = IfOk-weaker c.finish.result _ _ (λ out is given bytes h. ended_whole c.args.self c.add_last.new.self out.text.items given bytes read
          is h) c.finish.ensures.text;
      outcome = IfOk-weaker c.finish.result _ _ (λ out is given bytes h. ended_outcome c.args.self c.add_last.new.self out.outcome given bytes
          read is h) c.finish.ensures.outcome;
    }
