-- What each answer of the code says.
use Rattle.std.specs.declared.cmp.Ordering.{Ordering}
use Rattle.std.specs.declared.cmp.Ordering.TheVariants.{Less, Equal, Greater}
use Rattle.order.specs.Order.{Order, less, same, greater}

abbrev pub told : Ordering → Order
told Less = less
told Equal = same
told Greater = greater
