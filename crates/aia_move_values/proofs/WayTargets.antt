-- What a plan knows of the targets of what is passed, as a source is aimed and as its own move goes
-- on.
use Rattle.std.proofs.Common.{◌≡◌, ◌≢◌, ℕ, ◌+◌, ◌<◌, true, false, if◌then◌else◌, nat_lt, Option, inl, inr, refl, sym, ap, ◌∙◌, subst, arith}
use Rattle.std.proofs.lemmas.Bool.{cases_eq}
use Rattle.std.proofs.lemmas.Bool.Decides.{nat_tests}
use Rattle.aia_vcpu.specs.declared.place.GuestPlace.{GuestPlace}
use Rattle.aia_vcpu.specs.Home.{Home, ended, one_more}
use Rattle.aia_vcpu.specs.Home.Home.{OnWay}
use Rattle.aia_vcpu.specs.Plans.{is_at_last}
use Rattle.aia_vcpu.specs.BySteps.{new_file}
use Rattle.aia_vcpu.specs.Aims.{aims_done, is_aiming, aimed, further, pass_reaches, target_to, AreAimed}
use Rattle.aia_vcpu.proofs.PassLemmas.{further_aimed, further_on}
use Rattle.aia_move_values.specs.declared.who.Who.{Who}
use Rattle.aia_move_values.specs.Move.{Moving}
use Rattle.aia_move_values.specs.Targets.{TargetMap, AimsOne, pass_count, pass_in, aims, aim_of, one_aimed}
use Rattle.aia_move_values.specs.Ways.{KnowsTargets}
use Rattle.aia_vcpu.proofs.PassLemmas.{one_more_passes}

-- ---- another source is aimed

pub other_aimed : (old new : TargetMap) (m : Moving) (source target : ℕ) → AimsOne old source target new
    → ((r : ℕ) → r < pass_count m.who → (pass_in m.who r).source ≢ source) → KnowsTargets old m → KnowsTargets new m
other_aimed old new m source target one others knows = record {
  passes = knows.passes;
  come = knows.come;
  once = knows.once;
  ready = λ r low. one.ready (pass_in m.who r).source ∙ knows.ready r low;
  aimed = λ r low. one.others (pass_in m.who r).source (others r low) ∙ knows.aimed r low;
}

-- ---- one of its own is

abbrev target_by : Moving → ℕ → Option GuestPlace → ℕ
target_by m r place = target_to m.who.found.notice (pass_in m.who r).number (pass_in m.who r).identity place

-- where the passes lead with one more aimed: the next one to the new place, the others as before
pub next_reach : (passes : ℕ) (there : Home) → is_aiming passes there ≡ true → pass_reaches (aims_done there) (aimed there) ≡ new_file there
next_reach passes (OnWay way at) e = let past : nat_lt at.aims (at.aims + 1) ≡ true = grind (arith, nat_tests) in rw past refl
next_reach passes there e = absurd (cc)

other_reach : (passes r : ℕ) (there : Home) → is_aiming passes there ≡ true → r ≢ aims_done there
    → pass_reaches r (aimed there) ≡ pass_reaches r there
other_reach passes r (OnWay way at) e other =
    let same : nat_lt r (at.aims + 1) ≡ nat_lt r at.aims = grind (arith, nat_tests, other) in rw same refl
other_reach passes r there e other = absurd (cc)

aiming_low : (passes : ℕ) (there : Home) → is_aiming passes there ≡ true → aims_done there < passes
aiming_low passes (OnWay way at) e = grind (arith, nat_tests)
aiming_low passes there e = absurd (cc)

pub own_aimed : (old new : TargetMap) (m : Moving) → aims m ≡ true → AimsOne old (aim_of m).source (aim_of m).target new → KnowsTargets old m
    → KnowsTargets new (one_aimed m)
own_aimed old new m aiming one knows = record {
  passes = knows.passes;
  come = subst (λ h. AreAimed (pass_count m.who) h) further_is (further_aimed (pass_count m.who) 0 m.home knows.come);
  once = knows.once;
  ready = λ r low. one.ready (pass_in m.who r).source ∙ knows.ready r low;
  aimed = λ r low. elim (cases_eq r (aims_done m.home)) [
    | inl is ↦ subst (λ x. new.target (pass_in m.who x).source ≡ target_by m x (pass_reaches x (aimed m.home))) (sym is) next_is
    | inr ne ↦ one.others (pass_in m.who r).source (λ e. ne (knows.once r (aims_done m.home) low next_low e)) ∙ knows.aimed r low
        ∙ ap (target_by m r) (sym (other_reach (pass_count m.who) r m.home aiming ne))
  ];
}
  where
    further_is : further (pass_count m.who) 0 m.home ≡ aimed m.home
    further_is = rw aiming refl

    next_low : aims_done m.home < pass_count m.who
    next_low = aiming_low (pass_count m.who) m.home aiming

    next_is : new.target (pass_in m.who (aims_done m.home)).source ≡ target_by m (aims_done m.home) (pass_reaches (aims_done m.home) (aimed m.home))
    next_is = one.aimed (knows.ready (aims_done m.home) next_low) ∙ ap (target_by m (aims_done m.home))
        (sym (next_reach (pass_count m.who) m.home aiming))

-- ---- its move goes on

gone_on : (map : TargetMap) (m : Moving) (words : ℕ) → aims m ≡ false → is_at_last words m.home ≡ false → KnowsTargets map m
    → KnowsTargets map (record m { home = one_more m.home })
gone_on map m words none more knows = record {
  passes = knows.passes;
  come = subst (λ h. AreAimed (pass_count m.who) h) (further_on (pass_count m.who) words m.home none ∙ on)
      (further_aimed (pass_count m.who) words m.home knows.come);
  once = knows.once;
  ready = knows.ready;
  aimed = λ r low. knows.aimed r low ∙ ap (target_by m r) (sym (one_more_passes r m.home));
}
  where
    on : (if is_at_last words m.home then ended m.home else one_more m.home) ≡ one_more m.home
    on = rw more refl

pub goes_aimed : (map : TargetMap) (m t : Moving) (words : ℕ) → aims m ≡ false → is_at_last words m.home ≡ false → t.home ≡ one_more m.home
    → t.who ≡ m.who → KnowsTargets map m → KnowsTargets map t
goes_aimed map m t words none more home who knows =
    subst (λ (x : Who). KnowsTargets map (record t { who = x })) (sym who)
    (subst (λ (h : Home). KnowsTargets map (record t { who = m.who; home = h })) (sym home)
    (hands (gone_on map m words none more knows)))
  where
    hands : KnowsTargets map (record m { home = one_more m.home }) → KnowsTargets map (record t { who = m.who; home = one_more m.home })
    hands k = record { passes = k.passes; come = k.come; once = k.once; ready = k.ready; aimed = k.aimed }
