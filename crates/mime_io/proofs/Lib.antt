mod IoFacts
mod LineCuts
