-- The definitions of the cache.
pub mod Caches
