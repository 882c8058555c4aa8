-- What is claimed of the field holds. Assumes nothing.
use lib.Bits.{xor_comm, xor_self, xor_zero_r}
use Rattle.gf256.specs.Claims.{SumClaims, ProductClaims, FieldClaims}
use Rattle.gf256.proofs.Xor.{xor_assoc, xor_byte}
use Rattle.gf256.proofs.Product.{mul_lt, mul_comm, mul_assoc, mul_one_r, mul_xor_r}
use Rattle.gf256.proofs.Powers.{inv_lt, mul_inv, inv_unique}
use Rattle.gf256.proofs.Modulo.{modulo_holds}

sums_hold : SumClaims
sums_hold = record { byte = xor_byte; comm = xor_comm; assoc = xor_assoc; zero_is = xor_zero_r; self = xor_self }

products_hold : ProductClaims
products_hold =
    record {
      byte = λ a b ha hb. mul_lt a b ha;
      comm = mul_comm;
      assoc = mul_assoc;
      one_is = mul_one_r;
      inverse = λ a h₀ ha. (inv_lt a ha, mul_inv a h₀ ha);
      inverse_only = inv_unique;
    }

pub field_holds : FieldClaims
field_holds =
    record { modulo = modulo_holds; sums = sums_hold; products = products_hold; distributes = λ a b c ha hb hc. mul_xor_r a b c }
