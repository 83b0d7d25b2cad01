mod LayerLemmas
mod PlanLemmas
mod ProposalLemmas
