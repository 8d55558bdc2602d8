pub mod PastLemmas
pub mod RolesLemmas
pub mod ValidatorLemmas
mod SurveyLemmas
