mod Laws
mod Listed
