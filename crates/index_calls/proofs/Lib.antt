pub mod AllIndexed
