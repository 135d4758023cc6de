use Rattle.aia_regs.proofs.FieldLemmas.{bit_of_field, bit_past_field, got, others_stay, other_field, put_back, put_fits}
use Rattle.aia_regs.proofs.laws.fields.Goals as goal

pub returns : goal.returns
returns c = record {
  bits = bit_of_field;
  no_more = bit_past_field;
  got = got;
  others = others_stay;
  other_fields = other_field;
  put_back = put_back;
  fits = put_fits;
}
