pub mod PlanViews
