mod TakesLemmas
mod RoutesLemmas
mod LateLemmas
mod BehindLemmas
mod PlanLemmas
mod AccessLemmas
mod TextLemmas
