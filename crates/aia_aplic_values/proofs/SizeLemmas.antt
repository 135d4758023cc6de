-- The harts and the wired sources of the APLIC are those of the machine.
use Rattle.std.proofs.Common.{◌≡◌, ℕ, [], ◌∷◌, Option, Some, None, refl, sym, ap, ◌∙◌, Bool, true, false, cond}
use Rattle.std.specs.Option.{option_map}
use Rattle.aia_model.specs.declared.line.Line.{Line}
use Rattle.aia_model.specs.declared.line.Line.TheVariants.{Machine, Load, Store, Pass}
use Rattle.aia_model.specs.declared.domain_name.DomainName.{DomainName}
use Rattle.aia_model.specs.Event.{History, harts_of, sources_of, Event}
use Rattle.aia_model.specs.Event.Event.{Accepted, Stepped}
use Rattle.aia_model.specs.Act.{Past, newest, domain_at, register_at, act_of}
use Rattle.aia_model.specs.Act.Act.{Written, Loaded}
use Rattle.aia_model.specs.Sent.{with_act, acts_of}
use Rattle.aia_model.specs.SourceOf.{harts_in, sources_in}
use Rattle.aia_aplic_values.proofs.SendingLemmas.{sizes_settled}
use Rattle.aia_model.specs.Aim.{aim_of, aimed_by}
use Rattle.aia_vcpu.specs.Aims.{aims_done, is_aiming}
use Rattle.aia_model.specs.HomeOf.{home}
use Rattle.aia_model.specs.Passes.{own_pass, passes_for}

-- how many harts and sources there are
abbrev Sizes : Type 0
Sizes = ℕ × ℕ

abbrev sizes_in : Past → Sizes
sizes_in past = (harts_in past, sources_in past)

abbrev sizes_of : History → Sizes
sizes_of h = (harts_of h, sources_of h)

-- those that a line makes, where it makes a machine, and else those that there were
abbrev sizes_then : Line → Sizes → Sizes
sizes_then (Machine harts guests n sources) was = (harts, sources)
sizes_then line was = was

sizes_by : (line : Line) (p : Past) → sizes_in (with_act (act_of line) p) ≡ sizes_then line (sizes_in p)
unfolding newest
sizes_by (Load addr) p = at (domain_at addr)
  where
    at : (o : Option DomainName) → sizes_in (with_act (option_map (λ d. Loaded d (register_at addr)) o) p) ≡ sizes_in p
    at None = refl
    at (Some d) = refl
sizes_by (Store addr value) p = at (domain_at addr)
  where
    at : (o : Option DomainName) → sizes_in (with_act (option_map (λ d. Written d (register_at addr) value) o) p) ≡ sizes_in p
    at None = refl
    at (Some d) = refl
sizes_by line p = refl

sizes_after : (line : Line) (h : History) → sizes_of (Accepted line ∷ h) ≡ sizes_then line (sizes_of h)
sizes_after (Machine harts guests n sources) h = refl
sizes_after line h = refl

none : sizes_in [] ≡ (0, 0)
unfolding newest
none = refl

-- an aim makes no other
aimed_sizes : (h : History) (event : Event) (p : Past) → sizes_in (with_act (aimed_by h event) p) ≡ sizes_in p
unfolding newest
aimed_sizes h (Accepted (Pass source vm number identity)) p = refl
aimed_sizes h (Stepped g) p = by_aim (is_aiming (passes_for h g) (home h g))
  where
    by_aim : (b : Bool) → sizes_in (with_act (cond b (Some (aim_of h g (own_pass h g (aims_done (home h g))))) None) p) ≡ sizes_in p
    by_aim true = refl
    by_aim false = refl
aimed_sizes h event p = refl

same_sizes : (h : History) → sizes_in (acts_of h) ≡ sizes_of h
same_sizes [] = none
same_sizes (Accepted line ∷ h) =
    let aims : Past = with_act (aimed_by h (Accepted line)) (acts_of h) in
    sizes_settled (with_act (act_of line) aims) ∙ sizes_by line aims
    ∙ ap (sizes_then line) (aimed_sizes h (Accepted line) (acts_of h) ∙ same_sizes h) ∙ sym (sizes_after line h)
same_sizes (event ∷ h) = aimed_sizes h event (acts_of h) ∙ same_sizes h

pub same_harts : (h : History) → harts_in (acts_of h) ≡ harts_of h
same_harts h = ap (λ (p : Sizes). p.0) (same_sizes h)

pub same_sources : (h : History) → sources_in (acts_of h) ≡ sources_of h
same_sources h = ap (λ (p : Sizes). p.1) (same_sizes h)
