-- The bytes of the names that values are made of are graphic.
use Rattle.std.proofs.Common.{◌≡◌, ℕ, true, List, arith}
use Rattle.std.proofs.lemmas.Bool.{and_parts}
use Rattle.std.proofs.lemmas.Bool.Decides.{nat_tests}
use Rattle.std.specs.List.{AllByRecursion, list_all}
use Rattle.deb_base.specs.PackageNames.{is_package_name, is_arch_name, is_package_byte, is_arch_byte, begins_small_or_digit}
use Rattle.deb_base.proofs.FieldBytes.{each_from_list_all}
use Rattle.deb_base.proofs.GraphicBodies.{IsGraphic}

pub package_byte_graphic : (b : ℕ) → is_package_byte b ≡ true → IsGraphic b
package_byte_graphic b h = grind (arith, nat_tests)

arch_byte_graphic : (b : ℕ) → is_arch_byte b ≡ true → IsGraphic b
arch_byte_graphic b h = grind (arith, nat_tests)

pub package_name_graphic : (name : List ℕ) → is_package_name name ≡ true → AllByRecursion IsGraphic name
package_name_graphic name h = each_from_list_all is_package_byte IsGraphic package_byte_graphic name (and_parts _ (list_all is_package_byte name) h).1

pub arch_name_graphic : (name : List ℕ) → is_arch_name name ≡ true → AllByRecursion IsGraphic name
arch_name_graphic name h = each_from_list_all is_arch_byte IsGraphic arch_byte_graphic name (and_parts (begins_small_or_digit name) (list_all is_arch_byte name) h).1
