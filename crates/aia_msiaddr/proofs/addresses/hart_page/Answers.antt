use Rattle.std.proofs.Common.{◌≡◌, ◌+◌, ◌*◌, ◌%◌, ◌^◌, ◌≤◌, bit_or, ap, ◌∙◌, arith}
use Rattle.std.proofs.lemmas.Nat.{shl_whole}
use Rattle.aia_regs.specs.Fields.{field}
use Rattle.aia_msiaddr.specs.Addresses.{base_page, group_of, member_of}
use Rattle.aia_msiaddr.proofs.addresses.hart_page.Goals as goal

pub returns : goal.returns
returns c =
    let far : 14 + (c.bits.result + 12) ≤ 64 = omega (arith, c.bits.ensures.fits) in
    let near : 14 + c.bits-2.result ≤ 64 = omega (arith, c.bits-2.ensures.fits) in
    let group : c.group_of.result * 2 ^ (c.bits.result + 12) % 2 ^ 64 ≡ group_of c.args.mcfgh c.args.hart * 2 ^ (field c.args.mcfgh 28 24 + 12) =
    shl_whole c.group_of.result 14 (c.bits.result + 12) 64 c.group_of.ensures.small far
    ∙ ap (λ x. x * 2 ^ (c.bits.result + 12)) c.group_of.ensures.value
    ∙ ap (λ k. group_of c.args.mcfgh c.args.hart * 2 ^ (k + 12)) (c.bits.ensures.value ∙ ap (λ x. field x 28 24) c.from.ensures) in
    let member : c.member_of.result * 2 ^ c.bits-2.result % 2 ^ 64 ≡ member_of c.args.mcfgh c.args.hart * 2 ^ field c.args.cfgh 22 20 =
    shl_whole c.member_of.result 14 c.bits-2.result 64 c.member_of.ensures.small near
    ∙ ap (λ x. x * 2 ^ c.bits-2.result) c.member_of.ensures.value
    ∙ ap (λ k. member_of c.args.mcfgh c.args.hart * 2 ^ k) (c.bits-2.ensures.value ∙ ap (λ x. field x 22 20) c.from-2.ensures) in
    ap (λ b. bit_or (bit_or b (c.group_of.result * 2 ^ (c.bits.result + 12) % 2 ^ 64)) (c.member_of.result * 2 ^ c.bits-2.result % 2 ^ 64))
    c.base_page.ensures
    ∙ ap (λ g. bit_or (bit_or (base_page c.args.cfg c.args.cfgh) g) (c.member_of.result * 2 ^ c.bits-2.result % 2 ^ 64)) group
    ∙ ap (λ m. bit_or (bit_or (base_page c.args.cfg c.args.cfgh) (group_of c.args.mcfgh c.args.hart * 2 ^ (field c.args.mcfgh 28 24 + 12))) m) member
