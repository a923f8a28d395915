pub mod WrittenOrdersGrowth
