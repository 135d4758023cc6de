-- The candidates, one by one.
use Rattle.std.proofs.Common.{◌≡◌, ℕ, List, ◌++◌, not, ◌&&◌, cond, nat_eq, ap, ◌∙◌}
use Rattle.aia_regs.specs.Fields.{field}
use Rattle.aia_major.specs.VsMajor.{Candidate, one_if, is_live, vti_of, first_of}
use Rattle.aia_major.specs.Kept.{majors_shown, members}
use Rattle.aia_major.proofs.FirstLemmas.{first_of_five}
use Rattle.aia_major.proofs.vs_major.VsMajor.on_top.Goals as goal

joined : (e s t o h e' s' t' o' h' : List Candidate) → e ≡ e' → s ≡ s' → t ≡ t' → o ≡ o' → h ≡ h'
    → first_of (e ++ s ++ t ++ o ++ h) ≡ first_of (e' ++ s' ++ t' ++ o' ++ h')
joined e s t o h e' s' t' o' h' i j k l m = cc

pub returns : goal.returns
unfolding majors_shown
returns c =
    let live : (j : ℕ) → members c.and-live.result j ≡ is_live (majors_shown c.args.self.now) c.args.signal j =
    λ j. ap (λ f. f j) c.and-live.ensures ∙ ap (λ f. f j && members c.args.self.now.enabled j) c.pending.ensures in
    let other : (j : ℕ) (d : Candidate) → one_if (not (vti_of c.args.self.now.hvictl) && members c.and-live.result j) d ≡ one_if
    (not (vti_of c.args.self.now.hvictl) && is_live (majors_shown c.args.self.now) c.args.signal j) d =
    λ j d. ap (λ b. one_if (not (vti_of c.args.self.now.hvictl) && b) d) (live j) in
    first_of_five c.external.result c.by_hviprio1-3.result c.by_hviprio1-2.result c.by_hviprio1.result c.by_hvictl-by_hvictl.result
    c.first-overflow.result c.first-timer.result c.first-software.result c.first.result c.first-overflow.ensures c.first-timer.ensures
    c.first-software.ensures c.first.ensures
    ∙ joined _ _ _ _ _ _ _ _ _ _ (c.external.ensures
    ∙ ap (λ b. one_if b (record { major = 9; number = cond (nat_eq c.args.stopei 0) 256 (field c.args.stopei 10 0); rank = 1 })) (live 9))
    (c.by_hviprio1-3.ensures ∙ other 1 _) (c.by_hviprio1-2.ensures ∙ other 5 _) (c.by_hviprio1.ensures ∙ other 13 _) c.by_hvictl-by_hvictl.ensures
