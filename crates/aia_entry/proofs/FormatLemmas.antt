-- The words that are made for an entry say that entry, and no others do.
use Rattle.std.proofs.Common.{◌≡◌, ℕ, ◌+◌, ◌*◌, ◌/◌, ◌%◌, ◌^◌, ◌<◌, true, false, refl, arith}
use Rattle.std.proofs.lemmas.Bool.{eq-eqb, ne_eqb}
use Rattle.aia_regs.specs.Fields.{field}
use Rattle.aia_word.specs.Sets.{has_bit}
use Rattle.aia_entry.specs.declared.entry.Entry.TheVariants.{Basic, Mrif}
use Rattle.aia_entry.specs.Format.{decoded, basic_word, mrif_word, notice_word}

pub basic_back : (page w1 : ℕ) → page < 2 ^ 44 → decoded (basic_word page) w1 ≡ Basic page
basic_back page w1 low =
    let v : has_bit (page * 1024 + 7) 0 ≡ true = eq-eqb _ _ (omega arith) in
    let c : has_bit (page * 1024 + 7) 63 ≡ false = ne_eqb _ _ (λ e. omega arith) in
    let m : field (page * 1024 + 7) 2 1 ≡ 3 = omega arith in
    let r : field (page * 1024 + 7) 9 3 ≡ 0 = omega arith in
    let s : field (page * 1024 + 7) 62 54 ≡ 0 = omega arith in
    let p : field (page * 1024 + 7) 53 10 ≡ page = omega arith in
    rw (v, c, m, r, s, p) refl

mrif_slot_back : (slot page identity : ℕ) → slot < 2 ^ 47 → page < 2 ^ 44 → identity < 2048
    → decoded (mrif_word (slot * 512)) (notice_word page identity) ≡ Mrif (slot * 512) page identity
mrif_slot_back slot page identity low lowp lowi =
    let w0 = slot * 512 / 4 + 3 in
    let w1 = page * 1024 + identity % 1024 + identity / 1024 * 2 ^ 60 in
    let v : has_bit w0 0 ≡ true = eq-eqb _ _ (omega arith) in
    let c : has_bit w0 63 ≡ false = ne_eqb _ _ (λ e. omega arith) in
    let m : field w0 2 1 ≡ 1 = omega arith in
    let r : field w0 6 3 ≡ 0 = omega arith in
    let s : field w0 62 54 ≡ 0 = omega arith in
    let t : field w1 59 54 ≡ 0 = omega arith in
    let u : field w1 63 61 ≡ 0 = omega arith in
    let a : field w0 53 7 ≡ slot = omega arith in
    let p : field w1 53 10 ≡ page = omega arith in
    let n : field w1 9 0 + 1024 * field w1 60 60 ≡ identity = omega arith in
    rw (v, c, m, r, s, t, u, a, p, n) refl

pub mrif_back : (addr page identity : ℕ) → addr % 512 ≡ 0 → addr < 2 ^ 56 → page < 2 ^ 44 → identity < 2048
    → decoded (mrif_word addr) (notice_word page identity) ≡ Mrif addr page identity
mrif_back addr page identity aligned low lowp lowi =
    let e : addr / 512 * 512 ≡ addr = omega (arith, aligned) in
    rw (e) at (mrif_slot_back (addr / 512) page identity (omega arith) lowp lowi)
