-- What AES-128 is: the field and the S-box, and the cipher over them.
pub mod Field
pub mod Aes
