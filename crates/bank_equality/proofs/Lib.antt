mod Reading
mod Lists
