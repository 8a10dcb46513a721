mod WordLemmas
mod PrintLemmas
