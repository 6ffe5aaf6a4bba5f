-- What translating a rule, writing its image and judging a lasso by it promises.
pub mod Demand
